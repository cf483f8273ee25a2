use Rattle.array_book.proofs.Decided.{read-decided, write-decided, rebuild-decided, resync-decided}
use Rattle.array_book.proofs.decision.decide.Goals as goal

pub returns-in-Read : goal.returns-in-Read
returns-in-Read c = rw c.in-Read.is (λ s stripe target past same. read-decided s stripe target past c.args.facts.now same _ c.decide_read.ensures)

pub returns-in-Write : goal.returns-in-Write
returns-in-Write c = rw c.in-Write.is (λ s stripe target past same. write-decided s stripe target past c.args.facts.now same _ c.decide_write.ensures)

pub returns-in-Rebuild : goal.returns-in-Rebuild
returns-in-Rebuild c = rw c.in-Rebuild.is (λ s stripe target past same. rebuild-decided s stripe target past c.args.facts.now same _ c.decide_rebuild.ensures)

pub returns-in-Resync : goal.returns-in-Resync
returns-in-Resync c = rw c.in-Resync.is (λ s stripe target past same. resync-decided s stripe target past c.args.facts.now same _ c.decide_resync.ensures)
