-- What the three numbers are good for: the line's rules say the same of them as of the whole sheet, and a row's number is a byte.
-- Assumes nothing.
use Prim.Native.Nat.{ℕ, ◌+◌, ◌<◌, ◌≤◌}
use mathlib.Core.Path.{◌≡◌, ap}
use mathlib.Core.List.{List}
use native.Mathlib.Omega.{arith}
use Rattle.kinds.specs.declared.Site.{Site}
use Rattle.sheet.specs.Sheet.{most_rows, entity_of, quota_of}
use Rattle.sheet.specs.Rows.{first_row, rows_owned}
use Rattle.model.specs.FarmSheet.{farm_sheet}
use Rattle.model.proofs.SameSite.{SameSite}
use Rattle.sheet.proofs.RowsLaws.{first_few, owned_few, rows-within, rows_few}
use Rattle.table.specs.Layout.{seats}
use Rattle.decide.specs.SiteSheet.{site_sheet}
use Rattle.closing.specs.Did.{RowsFit}
use Rattle.site.specs.Site.{site_of, Sited}

-- the three numbers, each read by itself
pub sited_is : (s : List ℕ) (f first quota entity : ℕ) → first ≡ first_row s f → quota ≡ quota_of s f → entity ≡ entity_of s f
    → record { first = first; quota = quota; entity = entity } ≡ site_of s f
unfolding site_of
sited_is s f first quota entity x y z = λ i. record { first = x i; quota = y i; entity = z i }

pub sited_same : (s : List ℕ) (f : ℕ) (site : Site) → Sited s f site → SameSite (site_sheet site) (farm_sheet s f)
unfolding site_sheet farm_sheet site_of
sited_same s f site h =
    record {
      entity = ap (λ (x : Site). x.entity) h.is;
      quota = ap (λ (x : Site). x.quota) h.is;
      first = ap (λ (x : Site). x.first) h.is;
    }

pub sited_fit : (s : List ℕ) (f : ℕ) (site : Site) → Sited s f site → RowsFit site
unfolding site_of
sited_fit s f site h =
    omega (arith, ap (λ (x : Site). x.first) h.is, first_few s f h.good (omega (arith, h.has)))

-- ---- the farm's rows by its site

module _ (s : List ℕ) (f : ℕ) (site : Site) (h : Sited s f site) where
  pub sited_rows : site.quota + 1 ≡ rows_owned s f
  unfolding site_of
  sited_rows = ap (λ (x : Site). x.quota + 1) h.is

  pub sited_few : site.quota + 1 ≤ seats
  sited_few = omega (arith, sited_rows, owned_few s f h.good h.has)

  pub sited_first : site.first ≡ first_row s f
  unfolding site_of
  sited_first = ap (λ (x : Site). x.first) h.is

  -- a row of the farm is one of the sheet's
  pub sited_row : (seat : ℕ) → seat < site.quota + 1 → site.first + seat < most_rows
  sited_row seat k = omega (arith, sited_rows, sited_first, rows-within s f h.has, rows_few s h.good, k)
