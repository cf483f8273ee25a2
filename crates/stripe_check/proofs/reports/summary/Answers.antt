use Rattle.stripe_check.proofs.Summaries.{summary-text}
use Rattle.stripe_check.proofs.reports.summary.Goals as goal

pub returns : goal.returns
returns c =
    summary-text c.args.script.now c.args.journal.now c.setting_of-setting.result 0 c.len.result
    c.in_ok-found.found.media.items c.in_ok-found.found.story c.in_ok-found.found.losses c.new-text.result c.push_summary.new.text
    c.setting_of-setting.ensures.value c.in_ok-found.ensures c.len.ensures c.new-text.ensures c.in_ok-push_summary.ensures
