-- `meet::meet` meets its contract: the checks are made in their order, the size is known, and only then is anything written.
use Rattle.std.specs.Prelude.{Ok}
use Rattle.std.specs.Array.{IsWholeChunk}
use Rattle.std.proofs.lemmas.Option.{MatchOption-at_some, MatchOption-at_none}
use Rattle.std.proofs.lemmas.Result.{err_from_is_err_and}
use Rattle.sound.proofs.Refusing.{error_told}
use mathlib.Core.Path.{◌≡◌, sym, ap, ◌∙◌}
use Prim.Native.Nat.{◌≤◌}
use native.Mathlib.Omega.{arith}
use lib.ListN.{length}
use Rattle.std.proofs.Common.{sum}
use Rattle.words.specs.declared.LegLayout.TheVariants.{FourWords}
use Rattle.words.specs.Words.{Words, words_in_book}
use Rattle.soundness.specs.InWords.{plain_in}
use Rattle.meeting.specs.Meeting.{station_list, at_front, meeting_of}
use Rattle.meeting.specs.Statements.{longest_list}
use Rattle.meeting.proofs.Telling.{refused_1, refused_15}
use Rattle.stations.specs.Counting.{list_length}
use Rattle.stations.proofs.Walking.{all_few}
use Rattle.stations.proofs.Counting.{sum_counts}
use Rattle.meet.proofs.Whole.{list_length_lem, words_few, refused_21, list_out}
use Rattle.meet.proofs.meet.Goals as goal
use Rattle.meet.proofs.meet.Goals.{In_ok-whole, After-size_of-size}

-- The array is the book, of whole length.
lent : (c : In_ok-whole) → IsWholeChunk c.args.book.now c.in_ok-whole.whole.now words_in_book
lent c = MatchOption-at_some _ _ _ c.in_ok-whole.ensures.ok_part c.as_array.ensures.cases

long : (c : In_ok-whole) → length c.in_ok-whole.whole.now ≡ words_in_book
long c = ap length (lent c).same ∙ (lent c).long

few : (c : After-size_of-size) → list_length c.size_of-size.result ≤ longest_list
few c = words_few c.in_ok-whole.whole.now (sym c.is_plain.ensures ∙ c.if-not-is_plain.false) c.args.station _ _ c.counts_at-counts.ensures c.size_of-size.ensures

pub returns-in_err-whole : goal.returns-in_err-whole
returns-in_err-whole c =
    let p = err_from_is_err_and c.from_residual.result c.from_residual.ensures.1 in
    let nothing = c.in_err-whole.ensures.ok_part in
    rw (p.1, p.2, error_told _ _ _ c.in_err-whole.ensures.value nothing) (sym (refused_1 c.args.book.now c.args.station c.args.out.now (MatchOption-at_none _ _ nothing c.as_array.ensures.cases)))

pub returns-then-not-is_plain : goal.returns-then-not-is_plain
returns-then-not-is_plain c =
    let words = c.in_ok-whole.whole.now in
    sym (refused_15 words c.args.station c.args.out.now (long (goal.at.returns-then-not-is_plain c).In_ok-whole) (sym c.is_plain.ensures ∙ c.if-not-is_plain.true))
    ∙ ap (λ (w : Words). meeting_of w c.args.station c.args.out.now) (lent (goal.at.returns-then-not-is_plain c).In_ok-whole).same

pub size_of-size-requires : goal.size_of-size-requires
size_of-size-requires c =
    let words = c.in_ok-whole.whole.now in
    omega
    (arith, ap sum c.counts_at-counts.ensures, sum_counts c.args.station (plain_in FourWords words), all_few words (sym c.is_plain.ensures ∙ c.if-not-is_plain.false) c.args.station)

pub overflow_add-words : goal.overflow_add-words
overflow_add-words c = omega (arith, few (goal.at.overflow_add-words c).After-size_of-size)

pub overflow_mul-words : goal.overflow_mul-words
overflow_mul-words c = omega (arith, few (goal.at.overflow_mul-words c).After-size_of-size)

pub overflow_add-words-2 : goal.overflow_add-words-2
overflow_add-words-2 c = omega (arith, few (goal.at.overflow_add-words-2 c).After-size_of-size)

pub returns-then-out-words : goal.returns-then-out-words
returns-then-out-words c =
    let args = c.args in
    let words = c.in_ok-whole.whole.now in
    let told = list_length_lem args.station (plain_in FourWords words) _ _ c.counts_at-counts.ensures c.size_of-size.ensures in
    sym (refused_21 words args.station args.out.now (long (goal.at.returns-then-out-words c).In_ok-whole) (sym c.is_plain.ensures ∙ c.if-not-is_plain.false) (omega (arith, told, c.if-out-words.true)))
    ∙ ap (λ (w : Words). meeting_of w args.station args.out.now) (lent (goal.at.returns-then-out-words c).In_ok-whole).same

pub write_list-end-requires : goal.write_list-end-requires
write_list-end-requires c = (c.counts_at-counts.ensures, c.size_of-size.ensures, omega (arith, c.if-out-words.false))

pub returns : goal.returns
returns c =
    let args = c.args in
    let words = c.in_ok-whole.whole.now in
    let told = list_length_lem args.station (plain_in FourWords words) _ _ c.counts_at-counts.ensures c.size_of-size.ensures in
    let list = station_list words args.station in
    ◌∙◌ {b = (Ok (length list), at_front args.out.now list)}
    (λ i. (Ok (c.write_list-end.ensures.0 i), c.write_list-end.ensures.1 i))
    (sym (list_out words args.station args.out.now (long (goal.at.returns c).In_ok-whole) (sym c.is_plain.ensures ∙ c.if-not-is_plain.false) (omega (arith, told, c.if-out-words.false))))
    ∙ ap (λ (w : Words). meeting_of w args.station args.out.now) (lent (goal.at.returns c).In_ok-whole).same
