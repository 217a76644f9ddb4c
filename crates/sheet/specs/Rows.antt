-- Document 01, "Farm sheet": "Farm 0 owns rows 0 to q, farm 1 the next q+1, and so on (ours)."
-- Assumes nothing: these are definitions.
use Rattle.std.specs.Prelude.{ℕ, zero, suc, ◌+◌, ◌-◌, List, ltb, Option, Some, None}
use Rattle.kinds.specs.declared.FarmNo.{FarmNo}
use Rattle.octets.specs.Choice.{pick}
use Rattle.sheet.specs.Sheet.{farm_count, quota_of, farm_no}

-- "the next q+1"
abbrev pub rows_owned : List ℕ → ℕ → ℕ
rows_owned s f = quota_of s f + 1

-- "and so on": a farm's first row is the one after those of the farms before it
abbrev pub first_row : List ℕ → ℕ → ℕ
first_row s zero = 0
first_row s (suc f) = first_row s f + rows_owned s f

-- "the sum of q+1 over the farms": the sheet's rows are 0 to this number, itself left out
abbrev pub rows_in : List ℕ → ℕ
rows_in s = first_row s (farm_count s)

-- whose row is r, and which of the owner's rows it is. Of n farms from farm f on, r counted from the first row of f
unfoldable pub owner_from : List ℕ → ℕ → ℕ → ℕ → Option (FarmNo × ℕ)
owner_from s zero f r = None
owner_from s (suc n) f r = pick (ltb r (rows_owned s f)) (Some (farm_no f, r)) (owner_from s n (suc f) (r - rows_owned s f))

abbrev pub owner_of : List ℕ → ℕ → Option (FarmNo × ℕ)
owner_of s r = owner_from s (farm_count s) 0 r
