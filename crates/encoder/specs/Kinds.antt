-- The kinds of the answers as the code has them: the number of each.
use Rattle.std.specs.Prelude.{ℕ}
use Rattle.encoder.specs.declared.AnswerKind.{AnswerKind}
use Rattle.encoder.specs.declared.AnswerKind.TheVariants.{Standing, Claimed, Waiting, Found, Put, Returned, Granted, Stale, Value, Held, Refused, Seen}

abbrev pub answer_kind_number : AnswerKind → ℕ
answer_kind_number Standing = 128
answer_kind_number Claimed = 129
answer_kind_number Waiting = 130
answer_kind_number Found = 131
answer_kind_number Put = 132
answer_kind_number Returned = 133
answer_kind_number Granted = 134
answer_kind_number Stale = 135
answer_kind_number Value = 136
answer_kind_number Held = 137
answer_kind_number Refused = 138
answer_kind_number Seen = 139
