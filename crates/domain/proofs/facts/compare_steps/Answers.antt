use Rattle.std.proofs.Common.{◌≡◌, ◌<◌, ◌≤◌, ◌∙◌, ℕ, List, [], ap, arith, drop, length, map, sym}
use Rattle.std.specs.Cmp.Lexicographic.{slice_cmp}
use Rattle.std.specs.declared.cmp.Ordering.TheVariants.{Less}
use Rattle.std.proofs.lemmas.List.{drop_all, drop_more}
use Rattle.domain.specs.Facts.{said_step, step_order}
use Rattle.domain.specs.declared.facts.Step.{Step}
use Rattle.domain.specs.declared.facts.Step.TheVariants.{Element}
use Rattle.domain.proofs.facts.compare_steps.Goals as goal

-- the same steps so far, and then steps that the others alone have
ends_first : (steps others : List Step) (place : ℕ) → length steps ≤ place → place < length others
    → slice_cmp step_order (map said_step (drop place steps)) (map said_step (drop place others)) ≡ Less
ends_first steps others place end more =
    ap (λ rest. slice_cmp step_order (map said_step rest) (map said_step (drop place others))) (drop_all place steps end)
    ∙ ap (λ rest. slice_cmp step_order [] (map said_step rest)) (drop_more others place Element more)

pub returns-then-steps-others : goal.returns-then-steps-others
returns-then-steps-others c =
    sym (c.loop-place.invariant.0 ∙ ends_first c.args.steps.now c.args.others.now c.loop-place.place (omega arith) (omega arith))
