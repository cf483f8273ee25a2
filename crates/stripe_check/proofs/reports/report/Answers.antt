use Rattle.std.proofs.Common.{ap, ◌∙◌, ◌++◌}
use Rattle.stripe_check.specs.Found.{replies_found}
use Rattle.stripe_check.proofs.Summaries.{report-text}
use Rattle.stripe_check.proofs.reports.report.Goals as goal

pub returns : goal.returns
returns c =
    let found = c.in_ok-found.found in
    report-text c.args.script.now c.args.journal.now c.setting_of-setting.result c.len.result c.len-2.result
    found.media.items found.story found.losses c.new-text.result c.push_replies.new.text c.push_summary.new.text
    c.setting_of-setting.ensures.value c.in_ok-found.ensures c.len.ensures c.len-2.ensures c.new-text.ensures
    (c.in_ok-push_replies.ensures
    ∙ ap (λ xs. c.new-text.result ++ replies_found found.story.reads.items found.story.failures.items found.story.tallies.items 0 xs) c.as_slice.ensures)
    c.in_ok-push_summary.ensures
