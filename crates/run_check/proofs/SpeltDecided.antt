-- The test of a CDB decides whether it spells a command.
use Rattle.std.proofs.Common.{ℕ, ◌^◌, ◌<◌, ◌&&◌, nat_lt}
use Rattle.std.specs.Bool.{Decides}
use Rattle.std.proofs.lemmas.Bool.Decides.{Decides-and, Decides-ltb, Decides-like}
use Rattle.std.proofs.lemmas.Slice.Eq.{bytes_eq-Decides}
use Rattle.sbc_cdbs.specs.declared.descriptor.Cdb.{Cdb}
use Rattle.sbc_cdbs.specs.declared.commands.Command.{Command}
use Rattle.sbc_cdbs.specs.Cdbs.{spelling, cdb_bytes, Fits, SpellsCdb}
use Rattle.run_check.proofs.PlainDecided.{Decides-le}
use Rattle.run_check.specs.Spelt.{fits, is_spelt}
use Rattle.sbc_cdbs.specs.declared.commands.Command.TheVariants as sbc

two-fit : (lba a count b : ℕ) → Decides (nat_lt lba a && nat_lt count b) ((lba < a) × (count < b))
two-fit lba a count b = Decides-and _ _ (Decides-ltb lba a) (Decides-ltb count b)

fits-decided : (command : Command) → Decides (fits command) (Fits command)
fits-decided (sbc.Read dpo fua lba count) = two-fit lba (2 ^ 32) count (2 ^ 16)
fits-decided (sbc.Write dpo fua lba count) = two-fit lba (2 ^ 32) count (2 ^ 16)
fits-decided (sbc.XdWrite dpo fua disable lba count) = two-fit lba (2 ^ 32) count (2 ^ 16)
fits-decided (sbc.XpWrite dpo fua lba count) = two-fit lba (2 ^ 32) count (2 ^ 16)
fits-decided (sbc.XdRead lba count) = two-fit lba (2 ^ 32) count (2 ^ 16)
fits-decided (sbc.XdWriteRead dpo fua disable lba count) = two-fit lba (2 ^ 32) count (2 ^ 16)
fits-decided (sbc.ModeSelect pf sp list) = Decides-ltb list (2 ^ 16)
fits-decided (sbc.ModeSense dbd pc page allocation) =
    Decides-like _ (λ p. (p.0.0, p.0.1, p.1)) (λ p. ((p.0, p.1), p.2))
    (Decides-and _ _ (Decides-and _ _ (Decides-le pc 3) (Decides-le page 63)) (Decides-ltb allocation (2 ^ 16)))
fits-decided (sbc.XdWriteExtended dpo fua disable lba second count address) =
    Decides-like _ (λ p. (p.0.0.0, p.0.0.1, p.0.1, p.1)) (λ p. (((p.0, p.1), p.2), p.3))
    (Decides-and _ _ (Decides-and _ _ (two-fit lba (2 ^ 32) second (2 ^ 32)) (Decides-ltb count (2 ^ 32))) (Decides-ltb address 256))
fits-decided (sbc.Rebuild dpo fua intdata lba count list) =
    Decides-like _ (λ p. (p.0.0, p.0.1, p.1)) (λ p. ((p.0, p.1), p.2)) (Decides-and _ _ (two-fit lba (2 ^ 32) count (2 ^ 32)) (Decides-ltb list (2 ^ 32)))
fits-decided (sbc.Regenerate dpo fua intdata lba count list) =
    Decides-like _ (λ p. (p.0.0, p.0.1, p.1)) (λ p. ((p.0, p.1), p.2)) (Decides-and _ _ (two-fit lba (2 ^ 32) count (2 ^ 32)) (Decides-ltb list (2 ^ 32)))

pub spelt-decided : (cdb : Cdb) (command : Command) → Decides (is_spelt cdb command) (SpellsCdb (cdb_bytes cdb) command)
spelt-decided cdb command = Decides-and _ _ (bytes_eq-Decides (cdb_bytes cdb) (spelling command)) (fits-decided command)
