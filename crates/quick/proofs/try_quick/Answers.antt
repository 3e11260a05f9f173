-- `quick::try_quick` meets its contract: nothing tried where too many are done, and else one swap.
use mathlib.Core.Path.{sym, ap, ◌∙◌}
use native.Mathlib.Omega.{arith}
use Rattle.words.specs.Words.{is_held}
use Rattle.tickets.specs.declared.SwapTried.{SwapTried}
use Rattle.quick.proofs.Trying.{went_same, went_other, not_tried, tried_by}
use Rattle.quick.proofs.try_quick.Goals as goal

pub returns-then-quick-ticket : goal.returns-then-quick-ticket
returns-then-quick-ticket c =
    let args = c.args in
    sym (not_tried args.book.now args.targets.now args.team args.ticket args.quick c.if-quick-ticket.true)

pub swap_at-swap-requires : goal.swap_at-swap-requires
swap_at-swap-requires c =
    (c.requires.0, c.requires.1 (omega (arith, c.if-quick-ticket.false)))

pub returns-then-found-swap : goal.returns-then-found-swap
returns-then-found-swap c =
    let swap = c.swap_at-swap in
    let few = c.if-quick-ticket.false in
    let args = c.args in
    let words = args.book.now in
    tried_by words args.targets.now args.team args.ticket args.quick swap.result c.conditional_swap-report.result.found c.conditional_swap-report.new.book _
    (omega (arith, few)) (swap.ensures.0 words) c.conditional_swap-report.ensures.found c.conditional_swap-report.ensures.words (went_same _ _ c.if-found-swap.true)

pub returns-then-counts_anyway : goal.returns-then-counts_anyway
returns-then-counts_anyway c =
    let swap = c.swap_at-swap in
    let few = c.if-quick-ticket.false in
    let args = c.args in
    let words = args.book.now in
    tried_by words args.targets.now args.team args.ticket args.quick swap.result c.conditional_swap-report.result.found c.conditional_swap-report.new.book _
    (omega (arith, few)) (swap.ensures.0 words) c.conditional_swap-report.ensures.found c.conditional_swap-report.ensures.words (sym c.if-counts_anyway.true ∙ c.counts_anyway.ensures words args.team ∙ ap (λ (tried : SwapTried). is_held tried.expected) (sym (swap.ensures.0 words)) ∙ went_other _ _ c.if-found-swap.false)

pub returns : goal.returns
returns c =
    let swap = c.swap_at-swap in
    let few = c.if-quick-ticket.false in
    let args = c.args in
    let words = args.book.now in
    tried_by words args.targets.now args.team args.ticket args.quick swap.result c.conditional_swap-report.result.found c.conditional_swap-report.new.book _
    (omega (arith, few)) (swap.ensures.0 words) c.conditional_swap-report.ensures.found c.conditional_swap-report.ensures.words (sym c.if-counts_anyway.false ∙ c.counts_anyway.ensures words args.team ∙ ap (λ (tried : SwapTried). is_held tried.expected) (sym (swap.ensures.0 words)) ∙ went_other _ _ c.if-found-swap.false)
