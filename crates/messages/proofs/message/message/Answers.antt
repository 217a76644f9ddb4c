-- `message::message` meets its contract.
-- Assumes nothing.
use mathlib.Core.Path.{ap, ◌∙◌}
use mathlib.Core.List.{List}
use Prim.Native.Nat.{ℕ}
use native.Mathlib.Omega.{arith}
use Rattle.std.proofs.Common.{rules}
use lib.ListN.{take}
use Rattle.model.specs.FarmSheet.{FarmSheet, farm_sheet}
use Rattle.model.specs.Farm.{Farm, quietly}
use Rattle.model.specs.Line.{marked}
use Rattle.model.proofs.SameSite.{marked_same}
use Rattle.table.specs.Block.{farm_of}
use Rattle.decide.specs.SiteSheet.{site_sheet}
use Rattle.closing.proofs.DidLaws.{did_same, did-quietly, did_nothing}
use Rattle.site.proofs.SiteLaws.{sited_same}
use Rattle.messages.proofs.LengthLaws.{request_long, response-long, diagnostic-long, payload-length}
use Rattle.messages.proofs.MessageLaws.{is-response, is_dropped}
use Rattle.messages.proofs.message.message.Goals as goal

pub request_of-requires : goal.request_of-requires
request_of-requires c = omega (arith, request_long _ _ c.requires.3 c.in-5.is, payload-length _ _ c.requires.3 c.args.room.now c.requires.2)

pub address_of-requires : goal.address_of-requires
address_of-requires c = omega (arith, response-long _ _ c.requires.3 c.in-8.is, payload-length _ _ c.requires.3 c.args.room.now c.requires.2)

pub ends_of-requires : goal.ends_of-requires
ends_of-requires c = omega (arith, diagnostic-long _ _ c.requires.3 c.in-32769.is, payload-length _ _ c.requires.3 c.args.room.now c.requires.2)

pub returns-in-8 : goal.returns-in-8
returns-in-8 c = let own : FarmSheet = farm_sheet c.args.s.now c.args.f.0 in
    let f : Farm = farm_of c.args.b.now in
    let payload : List ℕ = take c.args.size c.args.room.now in
    did_same _
    (ap quietly (marked_same (site_sheet c.args.site) own (sited_same _ _ _ c.requires.4) c.args.seat c.address_of.result f)
    ∙ ap (λ (a : ℕ). quietly (marked own c.args.seat a f)) c.address_of.ensures
    ∙ is-response own c.args.seat c.args.kind payload f (λ e. omega (arith, e, c.in-8.is)) c.in-8.is)
    (did-quietly c.mark_row.ensures)

pub returns-in_default : goal.returns-in_default
returns-in_default c = let own : FarmSheet = farm_sheet c.args.s.now c.args.f.0 in
    let f : Farm = farm_of c.args.b.now in
    let payload : List ℕ = take c.args.size c.args.room.now in
    did_same _ (is_dropped own c.args.seat c.args.kind payload f (λ e. search (rules, e)) (λ e. search (rules, e)) (λ e. search (rules, e)))
    (did_nothing c.args.p.now c.args.b.now c.requires.5)
