use Rattle.std.proofs.Common.{◌≡◌, ◌-◌, ◌∷◌, [], length, map, option_map, take, ap, sym, ◌∙◌, arith, refl}
use Rattle.std.proofs.lemmas.List.{length-append, length-map, take-map, take_at}
use Rattle.interpreter_state.specs.Views.{place_seen}
use Rattle.interpreter_state.proofs.activation.Activation.close.Goals as goal

pub returns-clause-records : goal.returns-clause-records
returns-clause-records c = λ others place is.
    let kept = c.args.self.now.records in
    let all = length-map kept.items (option_map place_seen) in
    let both = ap length is in
    let split = length-append others (place ∷ []) in
    let one : length (place ∷ []) ≡ 1 = refl in
    let few : length others ≡ kept.len - 1 = omega (arith, all, both, split, one, kept.ok.0) in
    ap (map (option_map place_seen)) c.pop.ensures.rest ∙ sym (take-map (option_map place_seen) (kept.len - 1) kept.items)
    ∙ ap (take (kept.len - 1)) is ∙ take_at others (place ∷ []) (kept.len - 1) few
