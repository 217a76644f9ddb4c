-- The invariant of the loop of `put::letters_of`.
-- Assumes nothing.
use Rattle.std.proofs.Common.{◌≡◌, take}
use Rattle.octets.specs.Put.{put_at}
use Rattle.words.specs.Said.{letters}
use Rattle.words.proofs.put.letters_of.Given as goal

abbrev pub invariant-loop-j : goal.invariant-loop-j
invariant-loop-j l = l.out ≡ put_at l.initial.out l.at (letters (take l.j l.b))
