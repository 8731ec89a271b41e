-- One number for each answer: bits 0 to 7 the refusal's number, 8 to 15 its detail, 16 to 31 where shown bytes start, 32 to 63 the value. Assumes nothing.
use Rattle.std.specs.Prelude.{Bool, true, false, ℕ, ◌+◌, ◌*◌, Result, Ok, Err}
use Rattle.chunks.specs.declared.chunk.Grant.{Grant}
use Rattle.chunks.specs.declared.chunk.Grant.TheVariants.{Whole, Sized}
use Rattle.tags.specs.Refusal.{refusal_number, refusal_detail}
use Rattle.tags.specs.declared.refusal.Refusal.{Refusal}
use Rattle.transactions.specs.declared.latest.Transaction.{Transaction}
use Rattle.transactions.specs.declared.latest.Transaction.TheVariants as transaction
use Rattle.client.specs.declared.show.Shown.{Shown}

-- F1 (a value, and no refusal)
abbrev pub accepted_word : ℕ → ℕ
accepted_word value = value * 4294967296

-- F1, E2 (a refusal's number and detail, and no value)
unfoldable pub refused_word : Refusal → ℕ
refused_word why = refusal_number why + refusal_detail why * 256

-- F2 (the value, or the refusal)
abbrev pub answer_word : Result ℕ Refusal → ℕ
answer_word (Ok value) = accepted_word value
answer_word (Err why) = refused_word why

-- F2 (the log row's number, or 0x80000000 plus the record's index)
abbrev pub latest_word : Result Transaction Refusal → ℕ
latest_word (Ok (transaction.Row k)) = accepted_word k
latest_word (Ok (transaction.Record j)) = accepted_word (0x80000000 + j)
latest_word (Err why) = refused_word why

-- F2, F7 (the number of the client's bytes, and where in the buffer they start)
abbrev pub shown_word : ℕ → ℕ → ℕ
shown_word start len = accepted_word len + start * 65536

abbrev pub show_word : Result Shown Refusal → ℕ
show_word (Ok s) = shown_word s.start s.len
show_word (Err why) = refused_word why

-- F3 (where `whole` is true, `size` is not read)
abbrev pub grant_of : Bool → ℕ → Grant
grant_of true size = Whole
grant_of false size = Sized size
