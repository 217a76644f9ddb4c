-- From what a farm did on its block and on an empty plan to what the call has done.
-- Assumes nothing.
use Prim.Native.Nat.{ℕ, ◌≤◌, ◌<◌}
use mathlib.Core.Path.{◌≡◌, sym, ap, ◌∙◌, subst}
use mathlib.Core.List.{List, []}
use native.Mathlib.Omega.{arith}
use lib.ListN.{length}
use Rattle.kinds.specs.declared.Item.{Item}
use Rattle.sheet.specs.Sheet.{most_farms}
use Rattle.outsheet.specs.Sheet.{sheet_of}
use Rattle.outsheet.specs.Replies.{entries_of}
use Rattle.plan.specs.Plan.{plan_room}
use Rattle.outsheet.specs.Contracts.{least_output, Room, Wrote}
use Rattle.outsheet.proofs.RoomLaws.{room_for}
use Rattle.model.specs.FarmSheet.{farm_sheet}
use Rattle.model.specs.Farm.{Done}
use Rattle.model.specs.Move.{peer_gone, link_gone, no_row}
use Rattle.model.proofs.RuleParts.{FarmOk}
use Rattle.model.proofs.RuleKept.{farm-ok}
use Rattle.table.specs.Block.{farm_of}
use Rattle.closing.specs.Did.{pushed_all, Did}
use Rattle.closing.proofs.DidLaws.{pushed_first, did_same}
use Rattle.room.proofs.Moves.{Small, peer_room, link_room}
use Rattle.room.proofs.Long.{peer_short, link_short}
use Rattle.lent.specs.declared.Answer.{Answer}
use Rattle.lent.specs.Lent.{block}
use Rattle.lent.specs.Served.{done}
use Rattle.serve.specs.Ready.{Ready}
use Rattle.serve.specs.Moved.{DidAt, Moved}
use Rattle.finish.proofs.AnswerLaws.{wrote-items}

-- ---- the farm that a call is for

module _ {s t : List ℕ} {f : ℕ} (r : Ready s t f) where
  pub ready_below : f < most_farms
  ready_below = omega (arith, r.has, r.sheet.head.farms_at_most)

  ready_ok : FarmOk (farm_sheet s f)
  ready_ok = farm-ok s f r.sheet r.has

  pub peer_small : (seat : ℕ) → Small (peer_gone (farm_sheet s f) seat (farm_of (block t f))).items []
  peer_small seat =
      record {
        few = peer_room ready_ok r.good seat;
        one_long = omega (arith, peer_short (farm_sheet s f) seat (farm_of (block t f)));
        short = omega arith;
      }

  pub link_small : Small (link_gone (farm_sheet s f) (farm_of (block t f))).items []
  link_small =
      record {
        few = link_room ready_ok r.good;
        one_long = omega (arith, link_short (farm_sheet s f) (farm_of (block t f)));
        short = omega arith;
      }

-- ---- the plan

-- from an empty plan on, it says just these entries
pub said-items : {p plan : List Item} {b : List ℕ} {d : Done} → p ≡ [] → Did p b plan d → length d.items ≤ plan_room → plan ≡ d.items
said-items {d = d} none did few = did.said ∙ ap (λ (x : List Item). pushed_all x d.items) none ∙ pushed_first d.items few

pub small-room : (plan : List Item) (long : List ℕ) (n : ℕ) (items : List Item) → plan ≡ items → Small items long → least_output ≤ n → Room plan long n
small-room plan long n items e small h = subst (λ (x : List Item). Room x long n) (sym e) (room_for items long n small.few small.one_long small.short h)

-- ---- the call

pub at_same : {f : ℕ} {p plan : List Item} {t after : List ℕ} {d e : Done} → d ≡ e → DidAt f d p t plan after → DidAt f e p t plan after
at_same {d = d} {e = e} k x = record { only = x.only; did = did_same e k x.did }

pub moved_of : {f : ℕ} {d : Done} {p plan : List Item} {t after out output : List ℕ} {a : Answer} → p ≡ [] → Small d.items [] → DidAt f d p t plan after
    → a ≡ done no_row 0 a.length → Wrote (sheet_of (entries_of [] plan)) out output a.length → Moved f d t out after output a
moved_of none small x e w =
    record {
      answer = e;
      only = x.only;
      holds = record { is = x.did.is; whole = x.did.whole };
      wrote = wrote-items [] (said-items none x.did small.few) w;
    }
