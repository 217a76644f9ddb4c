-- The invariant of the loop of `fill::fill_in`.
-- Assumes nothing.
use Rattle.std.proofs.Common.{◌≡◌, take, map}
use Rattle.words.specs.Said.{Said}
use Rattle.words.specs.Book.{fill}
use Rattle.words.specs.Sentence.{arg_text}
use Rattle.words.proofs.FillLaws.{holes}
use Rattle.words.proofs.fill.fill_in.Given as goal

abbrev pub invariant-loop-c : goal.invariant-loop-c
invariant-loop-c l = record {
  said : Said (fill (take l.c-index l.t) (map arg_text l.args)) l.initial.out l.out l.at l.p;
  filled : l.filled ≡ holes (take l.c-index l.t);
}
