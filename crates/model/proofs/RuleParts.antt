-- Rule 4 in three parts: what holds of rows and line by themselves, what holds of the running check, and that rows are tidy.
-- Assumes nothing.
use Prim.Native.Nat.{ℕ, ◌≤◌, ◌<◌}
use mathlib.Core.Path.{◌≡◌}
use mathlib.Core.Bool.{true, false}
use lib.ListN.{length}
use Rattle.octets.specs.Choice.{one}
use Rattle.octets.specs.Search.{count_if}
use Rattle.model.specs.FarmSheet.{FarmSheet}
use Rattle.kinds.specs.Clock.{check_limit}
use Rattle.model.specs.Row.{row_at, is_open, is_waiting, is_active, active_as, at_limit}
use Rattle.model.specs.Farm.{Farm, seat_count}
use Rattle.model.specs.Line.{is_marked, is_asked}
use Rattle.model.specs.Rule.{times, PossibleAt, RowKeeps, HeadKeeps, Tidy, Good}

pub record Sound (own : FarmSheet) (f : Farm) : Type 0 where
  pub seats : length f.rows ≡ seat_count
  pub marks_too : length f.marks ≡ seat_count
  pub within : (i : ℕ) → own.rows ≤ i → is_open (row_at f.rows i) ≡ false
  pub rows_keep : (i : ℕ) → RowKeeps own (row_at f.rows i) (row_at f.rows i).state
  pub active_once : (a : ℕ) → count_if (active_as a) f.rows ≤ 1
  pub places_left : count_if is_active f.rows ≤ own.quota
  pub lined : (i : ℕ) → times i f.line ≡ one (is_waiting (row_at f.rows i))
  pub young : (i : ℕ) → at_limit (row_at f.rows i) ≡ false
  pub possible : (i : ℕ) → PossibleAt (row_at f.rows i).place (row_at f.rows i).head

pub record Calm (own : FarmSheet) (f : Farm) : Type 0 where
  pub head_keeps : HeadKeeps own f f.line
  pub check_runs : f.clock.ticks < check_limit
  pub marks_asked : (i : ℕ) → is_marked f.marks i ≡ true → is_asked own f i ≡ true

pub sound_of : {own : FarmSheet} {f : Farm} → Good own f → Sound own f
sound_of g =
    record {
      seats = g.seats;
      marks_too = g.marks_too;
      within = g.within;
      rows_keep = g.rows_keep;
      active_once = g.active_once;
      places_left = g.places_left;
      lined = g.lined;
      young = g.young;
      possible = g.possible;
    }

pub calm_of : {own : FarmSheet} {f : Farm} → Good own f → Calm own f
calm_of g = record { head_keeps = g.head_keeps; check_runs = g.check_runs; marks_asked = g.marks_asked }

pub good_of : {own : FarmSheet} {f : Farm} → Sound own f → Calm own f → ((i : ℕ) → Tidy (row_at f.rows i)) → Good own f
good_of s c t =
    record {
      seats = s.seats;
      marks_too = s.marks_too;
      within = s.within;
      rows_keep = s.rows_keep;
      active_once = s.active_once;
      places_left = s.places_left;
      lined = s.lined;
      head_keeps = c.head_keeps;
      young = s.young;
      check_runs = c.check_runs;
      marks_asked = c.marks_asked;
      possible = s.possible;
      tidy = t;
    }

-- what the rules ask of a farm's part of a good sheet (and nothing more is needed of it)
pub record FarmOk (own : FarmSheet) : Type 0 where
  pub some : 1 ≤ own.quota
  pub rooms : own.rows ≤ seat_count
