use Rattle.std.proofs.Common.{rules, arith, ◌≡◌, ◌≤◌, ap, ◌∙◌, sym, refl, List, ℕ, false, length, slice_index}
use Rattle.std.proofs.lemmas.List.{length-replicate}
use Rattle.array_journal.specs.declared.at.At.{At}
use Rattle.xor_params.specs.Contents.{sources_in, intermediate_in}
use Rattle.xor_params.specs.ParameterLists.{announced_sources}
use Rattle.regen_rebuild.specs.Gatherings.{Gathering, fresh}
use Rattle.xor_target.specs.Admission.{count_of}
use Rattle.xor_target.proofs.Gatherings.{first-awaits, sources-length}
use Rattle.xor_target.proofs.gathering.Gathering.new.Goals as goal

pub invariant_of-result : goal.invariant_of-result
invariant_of-result c =
    let bytes = c.args.order.now.bytes in
    let gather = c.in_ok-gather.gather in
    let n = announced_sources bytes in
    let same : length c.in_ok-sources.sources ≡ n = ap length c.in_ok-sources.ensures ∙ ap (λ (b : List ℕ). length (sources_in b)) c.as_slice-list.ensures ∙ sources-length bytes in
    let is : gather ≡ fresh c.args.block c.unwrap_or-count.result n =
    c.in_ok-gather.ensures ∙ ap (λ (b : List ℕ). fresh c.args.block c.unwrap_or-count.result (slice_index b 0)) c.as_slice-list.ensures in
    let long : length gather.accepted ≡ n = ap (λ (x : Gathering). length x.accepted) is ∙ length-replicate n false in
    let inside : length c.gather.inside.taken.items ≡ length gather.accepted = ap (λ (x : Gathering). length x.accepted) c.gather.view_is in
    let few : n ≤ 255 = omega (arith, long, inside, c.gather.invariant.1) in
    first-awaits c.in_ok-sources.sources gather c.args.block c.unwrap_or-count.result n same few is

pub returns : goal.returns
returns c =
    let order = c.args.order.now in
    let command = c.args.admitted.now.command in
    let block = c.args.block in
    let count : c.unwrap_or-count.result ≡ count_of command = search rules in
    record {
      of_order =
          ap (λ (names : List At). record order { names = names; cdb = c.in_ok-copy-2.field-0; bytes = c.in_ok-from_slice.field-0 }) c.in_ok-copy.ensures
          ∙ ap (λ (cdb : List ℕ). record order { cdb = cdb; bytes = c.in_ok-from_slice.field-0 }) c.in_ok-copy-2.ensures
          ∙ ap (λ (b : List ℕ). record order { bytes = b }) (c.in_ok-from_slice.ensures ∙ c.intermediate_in.ensures ∙ ap intermediate_in c.as_slice-list.ensures);
      of_command = refl;
      sent = c.requires.sent;
      sources = c.in_ok-sources.ensures ∙ ap sources_in c.as_slice-list.ensures;
      answered = refl;
      gather =
          c.in_ok-gather.ensures ∙ ap (λ (b : List ℕ). fresh block c.unwrap_or-count.result (slice_index b 0)) c.as_slice-list.ensures
          ∙ ap (λ (n : ℕ). fresh block n (announced_sources order.bytes)) count ∙ ap (λ (n : ℕ). fresh block (count_of command) n) (sym (sources-length order.bytes));
    }
