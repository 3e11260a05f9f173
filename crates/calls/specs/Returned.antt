-- What the code's reply says: a number of bytes, or a refusal that is returned and written nowhere.
use Rattle.std.specs.Prelude.{ℕ, [], ◌∷◌, Result, Ok, Err}
use Rattle.std.proofs.Math.Option.{Option}
use Rattle.words.specs.Words.{Words}
use Rattle.legs.specs.Positions.{Ranks}
use Rattle.tickets.specs.Table.{table_of}
use Rattle.frames.specs.declared.Refusal.{Refusal}
use Rattle.frames.specs.Numbers.{Bytes}
use Rattle.frames.specs.Refusals.{refusal_number}
use Rattle.calls.specs.Call.{book_length_wrong, ranks_wrong, output_short, check, first_of, Reply}
use Rattle.calls.specs.declared.Reply as Code

-- The number that is returned.
abbrev pub returned_by : Result ℕ Refusal → ℕ
returned_by (Ok written) = written
returned_by (Err refusal) = refusal_number refusal

abbrev pub reply_of : Code.Reply → Reply
reply_of reply = record { written = returned_by reply.written; tickets = table_of reply.tickets }

-- The number of the refusal that is returned, if one is: of the first of these three that applies.
abbrev pub returned_refusal : Words → Ranks → Bytes → Option ℕ
returned_refusal words ranks out = first_of (check 1 (book_length_wrong words) ∷ check 13 (ranks_wrong ranks) ∷ check 2 (output_short out) ∷ [])
