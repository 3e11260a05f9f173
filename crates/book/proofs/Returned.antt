-- The refusal that a call returns, by its three tests.
use Prim.Native.Nat.{◌≤◌, ◌<◌}
use mathlib.Core.Path.{◌≡◌}
use mathlib.Core.Bool.{true, false}
use mathlib.Core.Option.{none, some}
use mathlib.Core.Logic.{◌≢◌}
use lib.ListN.{length}
use borrow.Author.Tests.{eq-eqb, ne_eqb, lt-ltb, le-ltb}
use Rattle.words.specs.Words.{Words, words_in_book}
use Rattle.legs.specs.Positions.{Ranks, is_permutation}
use Rattle.frames.specs.Numbers.{Bytes}
use Rattle.frames.specs.Answers.{longest_answer}
use Rattle.calls.specs.Returned.{returned_refusal}

module _ (words : Words) (ranks : Ranks) (out : Bytes) where
  pub returns_1 : length words ≢ words_in_book → some 1 ≡ returned_refusal words ranks out
  returns_1 wrong = rw (ne_eqb (length words) words_in_book wrong)

  pub returns_13 : length words ≡ words_in_book → is_permutation ranks ≡ false → some 13 ≡ returned_refusal words ranks out
  returns_13 whole bad = rw (eq-eqb (length words) words_in_book whole, bad)

  pub returns_2 : length words ≡ words_in_book → is_permutation ranks ≡ true → length out < longest_answer → some 2 ≡ returned_refusal words ranks out
  returns_2 whole fine short = rw (eq-eqb (length words) words_in_book whole, fine, lt-ltb (length out) longest_answer short)

  pub returns_none : length words ≡ words_in_book → is_permutation ranks ≡ true → longest_answer ≤ length out → none ≡ returned_refusal words ranks out
  returns_none whole fine room = rw (eq-eqb (length words) words_in_book whole, fine, le-ltb (length out) longest_answer room)
