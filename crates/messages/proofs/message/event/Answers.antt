-- `message::event` meets its contract.
-- Assumes nothing.
use mathlib.Core.Path.{sym, ap}
use Rattle.kinds.specs.declared.Event.{Event}
use Rattle.model.specs.FarmSheet.{FarmSheet, farm_sheet}
use Rattle.model.specs.Farm.{Farm}
use Rattle.model.specs.Bytes.{event_done}
use Rattle.table.specs.Block.{farm_of}
use Rattle.decide.specs.SiteSheet.{site_sheet}
use Rattle.closing.proofs.DidLaws.{did_same, did_nothing}
use Rattle.site.proofs.SiteLaws.{sited_same, sited_fit}
use Rattle.stream.specs.Took.{event_of}
use Rattle.messages.proofs.MessageLaws.{wrong-done}
use Rattle.messages.proofs.LengthLaws.{finished-right}
use Rattle.messages.proofs.message.event.Goals as goal

pub fault-requires : goal.fault-requires
fault-requires c = (c.requires.0, sited_fit _ _ _ c.requires.4, c.requires.5)

pub message-requires : goal.message-requires
message-requires c = (c.requires.0, c.requires.1, c.requires.2, finished-right c.in-Finished.is c.requires.3, c.requires.4, c.requires.5)

pub returns-in-InputEnded : goal.returns-in-InputEnded
unfolding event_done
returns-in-InputEnded c = let own : FarmSheet = farm_sheet c.args.s.now c.args.f.0 in
    let f : Farm = farm_of c.args.b.now in
    did_same _ (sym (ap (λ (x : Event). event_done own c.args.seat (event_of x) c.args.room.now f) c.in-InputEnded.is)) (did_nothing c.args.p.now c.args.b.now c.requires.5)

pub returns-in-Wrong : goal.returns-in-Wrong
returns-in-Wrong c = let own : FarmSheet = farm_sheet c.args.s.now c.args.f.0 in
    let f : Farm = farm_of c.args.b.now in
    did_same _ (wrong-done (site_sheet c.args.site) own (sited_same _ _ _ c.requires.4) c.args.seat c.args.room.now f c.in-Wrong.is) c.fault.ensures

pub returns-in-Finished : goal.returns-in-Finished
unfolding event_done
returns-in-Finished c = let own : FarmSheet = farm_sheet c.args.s.now c.args.f.0 in
    let f : Farm = farm_of c.args.b.now in
    did_same _ (sym (ap (λ (x : Event). event_done own c.args.seat (event_of x) c.args.room.now f) c.in-Finished.is)) c.message.ensures

pub returns-in-Skipped : goal.returns-in-Skipped
unfolding event_done
returns-in-Skipped c = let own : FarmSheet = farm_sheet c.args.s.now c.args.f.0 in
    let f : Farm = farm_of c.args.b.now in
    did_same _ (sym (ap (λ (x : Event). event_done own c.args.seat (event_of x) c.args.room.now f) c.in-Skipped.is)) (did_nothing c.args.p.now c.args.b.now c.requires.5)
