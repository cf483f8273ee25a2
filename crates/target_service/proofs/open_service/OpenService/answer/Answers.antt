use Rattle.std.proofs.Common.{◌≡◌, ◌+◌, refl, sym, ap, ◌∙◌}
use Rattle.program_status.proofs.Endings.{stop-found}
use Rattle.target_service.specs.declared.findings.ServiceFinding.TheVariants.{Over}
use Rattle.target_service.specs.Found.{finding_line}
use Rattle.target_service.specs.Limits.{passed}
use Rattle.target_service.specs.Progress.{moved_with, Passes}
use Rattle.target_service.proofs.Counting.{still-small}
use Rattle.target_service.proofs.open_service.OpenService.answer.Goals as goal

pub returns-in-Some-clause-stop : goal.returns-in-Some-clause-stop
returns-in-Some-clause-stop c =
    let s = c.args.self.now in
    let same : c.passed.result ≡ passed s.block (s.frames + 1) (moved_with s c.args.line.now) =
    c.passed.ensures ∙ ap (λ n. passed s.block (s.frames + 1) (s.moved + n)) c.moved_blocks.ensures.value in
    stop-found finding_line (Passes s c.args.line.now) (Over c.in-Some.limit) c.found.result c.found.ensures (sym same ∙ c.in-Some.is)

pub returns-in_ok-reply-in-None-clause-counting : goal.returns-in_ok-reply-in-None-clause-counting
returns-in_ok-reply-in-None-clause-counting c =
    let s = c.args.self.now in
    let small = still-small s.block (s.frames + 1) (s.moved + c.moved_blocks.result) c.requires.counting.some_block (sym c.passed.ensures ∙ c.in-None.is) in
    record {
      some_block = c.requires.counting.some_block;
      small_block = c.requires.counting.small_block;
      few_rows = c.requires.counting.few_rows;
      few_frames = small.0;
      few_moved = small.1;
      ready = c.in_ok-came-in-None.ensures.ready;
    }

pub returns-in_ok-reply-in-None-clause-replied : goal.returns-in_ok-reply-in-None-clause-replied
returns-in_ok-reply-in-None-clause-replied c =
    let s = c.args.self.now in
    let same : c.passed.result ≡ passed s.block (s.frames + 1) (moved_with s c.args.line.now) =
    c.passed.ensures ∙ ap (λ n. passed s.block (s.frames + 1) (s.moved + n)) c.moved_blocks.ensures.value in
    record {
      done = record { came = c.in_ok-came-in-None.came; step = c.in_ok-came-in-None.ensures.step; replies = c.in_ok-reply-in-None.ensures };
      frames = refl;
      moved = ap (λ n. s.moved + n) c.moved_blocks.ensures.value;
      rows = refl;
      block = refl;
      still = c.in_ok-came-in-None.ensures.count;
      within = sym same ∙ c.in-None.is;
    }
