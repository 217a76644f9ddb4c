-- The headings and the closing lines are short.
-- Assumes nothing.
use mathlib.Core.List.{List, [], ◌∷◌, ◌++◌}
use Prim.Native.Nat.{ℕ, ◌≤◌}
use native.Mathlib.Omega.{arith}
use lib.Dec.{eqb}
use lib.ListN.{length, length-append}
use Rattle.octets.specs.Numbers.{be16}
use Rattle.lines.specs.declared.Ending.{Ending}
use Rattle.lines.specs.declared.Ending.TheVariants.{End, Cut, Bad}
use Rattle.day.specs.declared.records.Call.{Call}
use Rattle.day.specs.declared.records.Call.TheVariants.{Start, Connect, Bytes, Closed, Lost, Tick, Datagram, Controller}
use Rattle.lines.specs.Text.{decimal}
use Rattle.lines.proofs.TextLaws.{length-decimal, length-hex}
use Rattle.words.specs.Said.{spelled}
use Rattle.words.specs.Sentence.{address}
use Rattle.words.specs.Names.{refusal_name}
use Rattle.words.proofs.LengthLaws.{total, pick-short, fill-short, refusal-short}
use Rattle.explain.specs.Headings.{call_text, done_text, refused_text, answer_text, count_text, heading_line}
use Rattle.explain.specs.Closings.{farm_text, last_text, farm_line, last_line}

abbrev pub most_heading : ℕ
most_heading = 300

abbrev pub most_closing : ℕ
most_closing = 150

call : (c : Call) → length (call_text c) ≤ 110
unfolding call_text total
call Start = omega arith
call (Connect f) = omega (arith, fill-short (spelled "connect, farm %: ") (decimal f.0 ∷ []), length-decimal f.0)
call (Bytes r) = omega (arith, fill-short (spelled "bytes from row %: ") (decimal r.0 ∷ []), length-decimal r.0)
call (Closed r) = omega (arith, fill-short (spelled "peer closed, row %: ") (decimal r.0 ∷ []), length-decimal r.0)
call (Lost f) = omega (arith, fill-short (spelled "link of farm % lost: ") (decimal f.0 ∷ []), length-decimal f.0)
call Tick = omega arith
call (Datagram f) = omega (arith, fill-short (spelled "datagram, farm %: ") (decimal f.0 ∷ []), length-decimal f.0)
call (Controller f c t) =
    omega (
      arith,
      fill-short (spelled "message from a controller, farm %, from controller % to tester %: ") (decimal f.0 ∷ address c ∷ address t ∷ []),
      length-decimal f.0,
      length-hex (be16 c),
      length-hex (be16 t),
    )

done : (c : Call) (row taken given : ℕ) → length (done_text c row taken given) ≤ 110
unfolding done_text total
done Start row taken given = omega arith
done (Connect f) row taken given = omega (arith, fill-short (spelled "done, row % opened") (decimal row ∷ []), length-decimal row)
done (Bytes r) row taken given =
    omega (arith, fill-short (spelled "done, % of % bytes taken") (decimal taken ∷ decimal given ∷ []), length-decimal taken, length-decimal given)
done (Closed r) row taken given = omega arith
done (Lost f) row taken given = omega arith
done Tick row taken given = omega arith
done (Datagram f) row taken given = omega arith
done (Controller f c t) row taken given = omega arith

refused : (n : ℕ) → length (refused_text n) ≤ 110
unfolding refused_text total
refused n = omega (arith, fill-short (spelled "refused (%): %") (decimal n ∷ refusal_name n ∷ []), length-decimal n, refusal-short n)

count : (n : ℕ) → length (count_text n) ≤ 30
unfolding count_text total
count n = omega (arith, fill-short (spelled "call %: ") (decimal n ∷ []), length-decimal n)

-- the heading of a call
pub heading_short : (n : ℕ) (c : Call) (number row taken given : ℕ) → length (heading_line n c number row taken given) ≤ most_heading
heading_short n c number row taken given =
    let a : List ℕ = answer_text c number row taken given in
    omega (
      arith,
      length-append (count_text n ++ call_text c ++ a) (10 ∷ []),
      length-append (count_text n ++ call_text c) a,
      length-append (count_text n) (call_text c),
      count n,
      call c,
      pick-short (eqb number 0) (done_text c row taken given) (refused_text number) 110 (done c row taken given) (refused number),
    )

-- the line of a farm, and the last line
pub farm-short : (f taken finished lost : ℕ) → length (farm_line f taken finished lost) ≤ most_closing
unfolding farm_text total
farm-short f taken finished lost =
    omega (
      arith,
      length-append (farm_text f taken finished lost) (10 ∷ []),
      fill-short (spelled "farm %: % bytes taken, % finished, % lost") (decimal f ∷ decimal taken ∷ decimal finished ∷ decimal lost ∷ []),
      length-decimal f,
      length-decimal taken,
      length-decimal finished,
      length-decimal lost,
    )

last : (e : Ending) → length (last_text e) ≤ 140
unfolding last_text total
last (End n) = omega (arith, fill-short (spelled "the end: % calls") (decimal n ∷ []), length-decimal n)
last (Cut n) = omega (arith, fill-short (spelled "the file is cut at byte %: the record that begins there is not whole") (decimal n ∷ []), length-decimal n)
last (Bad n) = omega (arith, fill-short (spelled "the file is bad at byte %: the record that begins there can not be read") (decimal n ∷ []), length-decimal n)

pub last_short : (e : Ending) → length (last_line e) ≤ most_closing
last_short e = omega (arith, length-append (last_text e) (10 ∷ []), last e)
