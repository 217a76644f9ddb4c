-- `finish_empty` meets its contract: the four bytes are the sheet of no entries.
-- Assumes nothing.
use mathlib.Core.Path.{sym, ap, ◌∙◌}
use mathlib.Core.List.{List, [], ◌++◌}
use Prim.Native.Nat.{ℕ}
use lib.ListN.{length, drop}
use Rattle.octets.specs.Put.{put_at}
use Rattle.outsheet.proofs.Examples.{no_entry}
use Rattle.finish.proofs.finish_empty.Goals as goal

pub returns-clause-wrote : goal.returns-clause-wrote
unfolding put_at
returns-clause-wrote c =
    let sheet = sym (no_entry []) in
    record {
      is = ap (λ (l : List ℕ). length l) sheet;
      bytes = c.put.ensures ∙ ap (λ (l : List ℕ). l ++ drop (length l) c.args.out.now) sheet;
    }
