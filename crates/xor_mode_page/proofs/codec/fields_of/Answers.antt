use Rattle.std.proofs.Common.{rules}
use Rattle.xor_mode_page.proofs.PageLemmas.{fields_spell}
use Rattle.xor_mode_page.proofs.codec.fields_of.Goals as goal

pub returns : goal.returns
returns c =
    fields_spell c.args.page.now _ _ _ _ _ c.told-page c.fits-page c.requires (search rules) (search rules) (search rules) (search rules) (search rules)
