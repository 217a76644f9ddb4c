-- "a heading line per call (its number in the file, the call by name with its row or farm, the answer in words)"
-- Assumes nothing: these are definitions.
use Rattle.std.specs.Prelude.{ℕ, List, [], ◌∷◌, ◌++◌, eqb}
use Rattle.octets.specs.Choice.{pick}
use Rattle.day.specs.declared.records.Call.{Call}
use Rattle.day.specs.declared.records.Call.TheVariants.{Start, Connect, Bytes, Closed, Lost, Tick, Datagram, Controller}
use Rattle.lines.specs.Text.{decimal}
use Rattle.words.specs.Said.{spelled}
use Rattle.words.specs.Names.{refusal_name}
use Rattle.words.specs.Sentence.{filled, address}

-- "Calls: start a fresh table; connect; bytes from a row; peer closed; link of a farm lost; tick (10 ms); datagram; message from a controller."
unfoldable pub call_text : Call → List ℕ
call_text Start = spelled "start a fresh table: "
call_text (Connect f) = filled "connect, farm %: " (decimal f.0 ∷ [])
call_text (Bytes r) = filled "bytes from row %: " (decimal r.0 ∷ [])
call_text (Closed r) = filled "peer closed, row %: " (decimal r.0 ∷ [])
call_text (Lost f) = filled "link of farm % lost: " (decimal f.0 ∷ [])
call_text Tick = spelled "tick: "
call_text (Datagram f) = filled "datagram, farm %: " (decimal f.0 ∷ [])
call_text (Controller f c t) =
    filled "message from a controller, farm %, from controller % to tester %: " (decimal f.0 ∷ address c ∷ address t ∷ [])

-- "Answer 0 is done; its row is the opened one for connect, else 255. Bytes taken is 0 outside bytes calls."; so many bytes were given
unfoldable pub done_text : Call → ℕ → ℕ → ℕ → List ℕ
done_text Start row taken given = spelled "done"
done_text (Connect f) row taken given = filled "done, row % opened" (decimal row ∷ [])
done_text (Bytes r) row taken given = filled "done, % of % bytes taken" (decimal taken ∷ decimal given ∷ [])
done_text (Closed r) row taken given = spelled "done"
done_text (Lost f) row taken given = spelled "done"
done_text Tick row taken given = spelled "done"
done_text (Datagram f) row taken given = spelled "done"
done_text (Controller f c t) row taken given = spelled "done"

unfoldable pub refused_text : ℕ → List ℕ
refused_text number = filled "refused (%): %" (decimal number ∷ refusal_name number ∷ [])

abbrev pub answer_text : Call → ℕ → ℕ → ℕ → ℕ → List ℕ
answer_text call number row taken given = pick (eqb number 0) (done_text call row taken given) (refused_text number)

unfoldable pub count_text : ℕ → List ℕ
count_text n = filled "call %: " (decimal n ∷ [])

-- the heading of the call with the number n in its file
abbrev pub heading_line : ℕ → Call → ℕ → ℕ → ℕ → ℕ → List ℕ
heading_line n call number row taken given = count_text n ++ call_text call ++ answer_text call number row taken given ++ (10 ∷ [])
