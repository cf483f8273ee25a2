-- The calls of the first host, before the first turn.
use Rattle.std.proofs.Common.{◌≡◌, ◌==◌, ◌*◌, ◌/◌, ℕ, suc, Bool, true, false, List, [], ◌∷◌, Option, Some, None, if◌then◌else◌, length, replicate, sym, subst}
use Rattle.std.specs.List.{AllByRecursion}
use Rattle.stripe_layout.specs.declared.geometry.Geometry.{Geometry}
use Rattle.sense_data.specs.declared.senses.Sense.{Sense}
use Rattle.array_journal.specs.declared.entry.Entry.{Entry}
use Rattle.host_requests.specs.Requests.{Request, Moves, Transfer, unless, moved, transfer_fault, request_of, cdb_fault, raw_transfer, reading, writing}
use Rattle.host_scripts.specs.declared.script.Action.{Action}
use Rattle.host_scripts.specs.declared.script.Action.TheVariants as actions
use Rattle.host_scripts.specs.declared.script.Call.{Call}
use Rattle.unit_plans.specs.Buses.{BusSetting}
use Rattle.array_control.specs.Begins.{IsOfHost}
use Rattle.array_control.specs.HostCalls.{calls_from, calls_of}
use Rattle.array_control.specs.Turns.{AreNew, AreOfHosts, StandsAt}
use Rattle.array_calls.specs.FirstHost.{IsMoved, IsOfFirst}

-- ---- what calls ask

unless-hosts : (fault : Option Sense) (job : Request) → IsOfHost job → IsOfHost (unless fault job)
unless-hosts None job hosts = hosts
unless-hosts (Some sense) job hosts = tt

moved-hosts : (g : Geometry) (t : Transfer) → IsOfHost (moved g t)
moved-hosts g t = unless-hosts (transfer_fault g t) (Moves t) tt

action-hosts : (g : Geometry) (action : Action) → IsMoved action → IsOfHost (request_of g action)
action-hosts g (actions.Read lba count) h = moved-hosts g (reading lba count [])
action-hosts g (actions.Write lba bytes) h = moved-hosts g (writing lba (length bytes / g.block) bytes)
action-hosts g (actions.Fill lba count byte) h = moved-hosts g (writing lba count (replicate (count * g.block) byte))
action-hosts g (actions.Raw cdb bytes) h = unless-hosts (cdb_fault cdb) (moved g (raw_transfer cdb bytes)) (moved-hosts g (raw_transfer cdb bytes))
action-hosts g (actions.Lose target) h = absurd h
action-hosts g (actions.Reset target) h = absurd h
action-hosts g (actions.DropNext target) h = absurd h
action-hosts g (actions.Replace target) h = absurd h
action-hosts g (actions.Rebuild target) h = absurd h
action-hosts g actions.Resync h = absurd h

more-hosts : (b : BusSetting) (number : ℕ) (action : Action) (more : List (ℕ × Action)) (own : Bool) → IsMoved action → AreOfHosts b more →
    AreOfHosts b (if own then (number, action) ∷ more else more)
more-hosts b number action more true moves hosts = (action-hosts b.array.geometry action moves, hosts)
more-hosts b number action more false moves hosts = hosts

calls-hosts : (b : BusSetting) (host number : ℕ) (calls : List Call) → AllByRecursion IsOfFirst calls → AreOfHosts b (calls_from host number calls)
calls-hosts b host number [] all = tt
calls-hosts b host number (call ∷ calls) all =
    more-hosts b number call.action _ (call.host == host) all.0.moves (calls-hosts b host (suc number) calls all.1)

-- ---- before the first turn

all-new : (calls : List (ℕ × Action)) → AreNew calls []
all-new [] = tt
all-new (call ∷ calls) = (tt, all-new calls)

-- a host that was told nothing stands in a journal of no entries
pub first-stands : (b : BusSetting) (host : ℕ) (calls : List Call) (journal : List Entry) → AllByRecursion IsOfFirst calls → journal ≡ [] →
    StandsAt b (record { host = host; calls = calls; replies = []; current = None }) journal
first-stands b host calls journal all none = subst (StandsAt b (record { host = host; calls = calls; replies = []; current = None })) (sym none) (record {
  told = tt;
  current = tt;
  new = all-new (calls_of host calls);
  hosts = calls-hosts b host 1 calls all;
})
