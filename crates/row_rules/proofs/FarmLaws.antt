-- The farm's rules: the head of a line, a case at a time; and what is said of a farm's rule sheet, carried to the whole sheet.
-- Assumes nothing.
use Rattle.std.proofs.Common.{Option, Some, None}
use Rattle.sheet.specs.declared.find.Known.{Known}
use Prim.Native.Nat.{ℕ, ◌+◌, ◌≤◌}
use mathlib.Core.Path.{◌≡◌, refl, sym, ap, ◌∙◌}
use mathlib.Core.Bool.{false, not}
use mathlib.Core.List.{List, [], ◌∷◌}
use native.Mathlib.Omega.{arith}
use lib.Dec.{eqb}
use lib.ListN.{length, get_or}
use borrow.Author.Tests.{lt-ltb, le-ltb, ne_eqb}
use Rattle.octets.specs.Choice.{pick, either}
use Rattle.kinds.specs.declared.Site.{Site}
use Rattle.sheet.specs.Sheet.{farm_count, testers_of}
use Rattle.sheet.specs.Rules.{GoodSheet}
use Rattle.sheet.specs.Find.{lookup}
use Rattle.sheet.proofs.FindLaws.{found_tester}
use Rattle.model.specs.FarmSheet.{FarmSheet, tester_by, farm_sheet, no_farm, slot_sheet}
use Rattle.model.specs.Farm.{Farm}
use Rattle.model.specs.Line.{head_verdict, is_marked, is_asked}
use Rattle.model.specs.RuleTest.{is_pending, head_keeps, good_farm}
use Rattle.model.proofs.SameSite.{SameSite, verdict_same, is_asked_same}
use Rattle.model.proofs.SameRule.{SameRule, good_same}
use Rattle.decide.specs.SiteSheet.{site_sheet}
use Rattle.site.specs.Site.{site_of, Sited}
use Rattle.row_tests.specs.Tester.{tester_in}
use Rattle.row_rules.specs.Seat.{rule_sheet}

-- ---- the head

module _ (own : FarmSheet) (x : Farm) where
  pub head-none : (line : List ℕ) → length line ≡ 0 → head_keeps own x line ≡ eqb x.clock.ticks 0
  head-none [] h = refl
  head-none (head ∷ rest) h = absurd (omega arith)

  pub head-some : (line : List ℕ) → (length line ≡ 0 → ⊥) → head_keeps own x line ≡ is_pending (head_verdict own x (get_or line 0 0))
  head-some [] h = absurd (h refl)
  head-some (head ∷ rest) h = refl

-- ---- the sheet

-- the site's numbers are the rule sheet's
rule_site : (s : List ℕ) (f : ℕ) (site : Site) (rows : ℕ) → SameSite (site_sheet site) (rule_sheet s f site rows)
unfolding site_sheet rule_sheet
rule_site s f site rows = record { entity = refl; quota = refl; first = refl }

-- the head's rule and a mark's look at no more
pub head_carried : (s : List ℕ) (f : ℕ) (site : Site) (rows : ℕ) (x : Farm) (line : List ℕ)
    → head_keeps (site_sheet site) x line ≡ head_keeps (rule_sheet s f site rows) x line
head_carried s f site rows x [] = refl
head_carried s f site rows x (head ∷ rest) =
    ap is_pending (verdict_same (site_sheet site) (rule_sheet s f site rows) (rule_site s f site rows) x head)

pub asked_carried : (s : List ℕ) (f : ℕ) (site : Site) (rows : ℕ) (x : Farm) (i : ℕ)
    → either (not (is_marked x.marks i)) (is_asked (site_sheet site) x i) ≡ either (not (is_marked x.marks i)) (is_asked (rule_sheet s f site rows) x i)
asked_carried s f site rows x i =
    ap (either (not (is_marked x.marks i))) (is_asked_same (site_sheet site) (rule_sheet s f site rows) (rule_site s f site rows) x i)

-- a farm of the sheet
rule_farm : (s : List ℕ) (f : ℕ) (site : Site) (rows : ℕ) → Sited s f site → rows ≡ site.quota + 1 → SameRule (rule_sheet s f site rows) (farm_sheet s f)
unfolding rule_sheet farm_sheet site_of
rule_farm s f site rows h e =
    record {
      site =
          record {
            entity = ap (λ (x : Site). x.entity) h.is;
            quota = ap (λ (x : Site). x.quota) h.is;
            first = ap (λ (x : Site). x.first) h.is;
          };
      rows = e ∙ ap (λ (x : Site). x.quota + 1) h.is;
      tester = λ a. refl;
    }

pub farm_carried : (s : List ℕ) (f : ℕ) (site : Site) (rows : ℕ) (x : Farm) → Sited s f site → rows ≡ site.quota + 1
    → good_farm (rule_sheet s f site rows) x ≡ good_farm (slot_sheet s f) x
unfolding slot_sheet
farm_carried s f site rows x h e =
    good_same (rule_sheet s f site rows) (farm_sheet s f) (rule_farm s f site rows h e) x
    ∙ ap (λ b. good_farm (pick b (farm_sheet s f) no_farm) x) (sym (lt-ltb f (farm_count s) h.has))

-- beyond the sheet's farms nobody is a tester
module _ (s : List ℕ) (f : ℕ) (good : GoodSheet s) (beyond : farm_count s ≤ f) where
  no_tester : (a : ℕ) → tester_in s f a ≡ false
  no_tester a = by (lookup a (testers_of s)) refl
    where
      by : (r : Option Known) → lookup a (testers_of s) ≡ r → tester_by f r ≡ false
      by (Some k) e = ne_eqb k.farm.0 f (λ z. absurd (omega (arith, (found_tester s good a k e).farm_exists)))
      by None e = refl

  rule_none : SameRule (rule_sheet s f (record { first = 0; quota = 0; entity = 0 }) 0) no_farm
  unfolding rule_sheet no_farm
  rule_none = record { site = record { entity = refl; quota = refl; first = refl }; rows = refl; tester = no_tester }

  pub none_carried : (x : Farm) → good_farm (rule_sheet s f (record { first = 0; quota = 0; entity = 0 }) 0) x ≡ good_farm (slot_sheet s f) x
  unfolding slot_sheet
  none_carried x =
      good_same (rule_sheet s f (record { first = 0; quota = 0; entity = 0 }) 0) no_farm rule_none x
      ∙ ap (λ b. good_farm (pick b (farm_sheet s f) no_farm) x) (sym (le-ltb f (farm_count s) beyond))
