-- A controller's message, a case at a time.
-- Assumes nothing.
use Rattle.std.proofs.Common.{Option, Some}
use Prim.Native.Nat.{ℕ}
use mathlib.Core.Path.{◌≡◌, refl, sym, ap, ◌∙◌}
use mathlib.Core.Bool.{Bool, true, false}
use mathlib.Core.List.{List}
use lib.Dec.{eqb, leb}
use lib.ListN.{length}
use Rattle.octets.specs.Choice.{pick, both, unless}
use Rattle.octets.specs.Search.{first_at}
use Rattle.kinds.specs.declared.Site.{Site}
use Rattle.kinds.specs.declared.Item.{Item}
use Rattle.kinds.specs.declared.Reply.TheVariants.{Message}
use Rattle.sheet.specs.declared.find.Known.{Known}
use Rattle.model.specs.FarmSheet.{FarmSheet, stranger, reachable, unreachable, target_by, farm_sheet}
use Rattle.model.specs.Row.{active_as}
use Rattle.model.specs.Farm.{Farm, says}
use Rattle.model.specs.Move.{Held, Move, refused, most_user, is_target, to_tester, controller_move}
use Rattle.model.specs.Table.{items_by}
use Rattle.plan.specs.Plan.{pushed_to}
use Rattle.decide.specs.SiteSheet.{site_sheet}
use Rattle.closing.specs.Did.{pushed_all}
use Rattle.closing.proofs.DidLaws.{pushed_none, pushed_one}
use Rattle.site.specs.Site.{Sited}
use Rattle.site.proofs.SiteLaws.{sited_same}
use Rattle.farm_controller.specs.Message.{size_fits, number_by, message_move, Messaged}

-- a target of another farm is no target of this one; whether it is reachable does not matter
pub target_known : (f : ℕ) (k : Known) → eqb k.farm.0 f ≡ is_target (target_by f (Some k))
target_known f k = by (eqb k.farm.0 f) (eqb k.flag 1)
  where
    by : (own flag : Bool) → own ≡ is_target (pick own (pick flag reachable unreachable) stranger)
    by true true = refl
    by true false = refl
    by false flag = refl

-- ---- the refusals in their order

two-rules : {A : Type 0} (a b : Bool) (r x : A) → unless a r (unless b r x) ≡ unless (both a b) r x
two-rules true b r x = refl
two-rules false b r x = refl

module _ (own : FarmSheet) (h : Held) (from to : ℕ) (user : List ℕ) where
  pub wrong_size : size_fits (length user) ≡ false → controller_move own h from to user ≡ refused 9
  unfolding controller_move
  wrong_size e =
      two-rules (leb 1 (length user)) (leb (length user) most_user) (refused 9)
      (unless (is_target (own.target from)) (refused 10) (to_tester own h from to user (first_at (active_as to) 0 h.farm.rows)))
      ∙ rw e

  pub right-size : size_fits (length user) ≡ true
      → controller_move own h from to user
      ≡ unless (is_target (own.target from)) (refused 10) (to_tester own h from to user (first_at (active_as to) 0 h.farm.rows))
  unfolding controller_move
  right-size e =
      two-rules (leb 1 (length user)) (leb (length user) most_user) (refused 9)
      (unless (is_target (own.target from)) (refused 10) (to_tester own h from to user (first_at (active_as to) 0 h.farm.rows)))
      ∙ rw e

  pub no_target : size_fits (length user) ≡ true → is_target (own.target from) ≡ false → controller_move own h from to user ≡ refused 10
  no_target e t = right-size e ∙ rw t

  pub for_tester : size_fits (length user) ≡ true → is_target (own.target from) ≡ true → (x : Option ℕ) → first_at (active_as to) 0 h.farm.rows ≡ x
      → controller_move own h from to user ≡ to_tester own h from to user x
  for_tester e t x k = right-size e ∙ rw t (ap (to_tester own h from to user) k)

-- ---- what is answered and said

module _ (s : List ℕ) (f : ℕ) (farm : Farm) (p : List Item) (from to : ℕ) (user : List ℕ) where
  pub messaged-refused : (n : ℕ) → ((rooms : List (List ℕ)) → message_move s f farm from to user rooms ≡ refused n)
      → Messaged s f farm p p from to user n
  messaged-refused n e =
      record {
        number = λ rooms. sym (ap number_by (e rooms));
        said = λ rooms. sym (pushed_none p) ∙ ap (λ (m : Move). pushed_all p (items_by m)) (sym (e rooms));
      }

  -- the item has the row's number over the whole sheet
  pub messaged-said : (site : Site) → Sited s f site → (after : List Item) (seat : ℕ)
      → ((rooms : List (List ℕ)) → message_move s f farm from to user rooms ≡ to_tester (farm_sheet s f) (record { farm = farm; rooms = rooms }) from to user (Some seat))
      → after ≡ pushed_to p (says (site_sheet site) seat (Message from to)) → Messaged s f farm p after from to user 0
  messaged-said site at after seat e said =
      let same : says (site_sheet site) seat (Message from to) ≡ says (farm_sheet s f) seat (Message from to) =
      rw (sited_same s f site at).first
      in
      record {
        number = λ rooms. sym (ap number_by (e rooms));
        said =
            λ rooms.
            said
            ∙ ap (pushed_to p) same
            ∙ sym (pushed_one p (says (farm_sheet s f) seat (Message from to)))
            ∙ ap (λ (m : Move). pushed_all p (items_by m)) (sym (e rooms));
      }
