use Rattle.std.proofs.Common.{◌≡◌, ◌<◌, ◌≤◌, ◌-◌, [], ◌∷◌, ◌++◌, length, take, ap, refl, sym, ◌∙◌, arith}
use Rattle.std.specs.Vec.{with_items}
use Rattle.std.proofs.lemmas.List.{with_items_is}
use Rattle.run_ports.specs.Feeding.{completed_rest}
use Rattle.run_ports.proofs.Filled.{Fills-ended, Fills-failed, Fills-piece, Gave-ended, Gave-failed, Gave-piece, last_of_piece, line_end_held, window-none}
use Rattle.run_ports.proofs.input.Input.fill.Goals as goal

pub returns-in_default-clause-fills : goal.returns-in_default-clause-fills
returns-in_default-clause-fills g c =
    Fills-failed c.args.self.now _ _ _ (window-none c.args.self.now c.requires.spent) refl c.requires.not_at_end c.requires.not_at_end refl
    (Gave-failed _ _ c.in_default.ensures.bytes c.in_default.ensures.asked c.in_default.ensures.counted)

pub returns-then-count-gt0-clause-fills : goal.returns-then-count-gt0-clause-fills
returns-then-count-gt0-clause-fills g c =
    let s = c.args.self.now in
    let piece = c.read.new.piece in
    let count = c.in-Ok.count in
    let full : length piece ≡ s.bytes.len = omega (arith, c.as_mut_slice.ensures.len) in
    let items = (with_items s.bytes piece).items in
    let same : items ≡ piece = with_items_is s.bytes piece full in
    let first = take (count - 1) items in
    let x = c.index.result.now in
    let long = ap length same in
    let within : count ≤ length items = omega (arith, long, c.in-Ok.ensures.bound) in
    let all : take count piece ≡ first ++ x ∷ [] = last_of_piece items piece count x c.if-count-gt0.true within same c.index.ensures in
    Fills-piece s _ _ _ first x (window-none s c.requires.spent) c.requires.not_at_end c.requires.not_at_end c.if-count-gt0.true
    (ap (take count) same ∙ all) refl
    (Gave-piece _ _ piece (first ++ x ∷ []) count all c.in-Ok.ensures.bound.1 c.in-Ok.ensures.bytes.0 c.in-Ok.ensures.asked c.in-Ok.ensures.counted)

pub returns-then-self-clause-fills : goal.returns-then-self-clause-fills
returns-then-self-clause-fills g c =
    let s = c.args.self.now in
    let piece = c.read.new.piece in
    let full : length piece ≡ s.bytes.len = omega (arith, c.as_mut_slice.ensures.len) in
    let items = (with_items s.bytes piece).items in
    let long = ap length (with_items_is s.bytes piece full) in
    let some : 0 < length piece = omega arith in
    let none : c.in-Ok.count ≡ 0 = omega (arith, c.if-count-gt0.false) in
    Fills-ended s _ _ _ (window-none s c.requires.spent) c.requires.not_at_end refl
    (line_end_held items (omega (arith, long, some)) ∙ ap (λ b. completed_rest b []) (sym c.if-self.true))
    (Gave-ended _ _ piece c.in-Ok.count none some c.in-Ok.ensures.bytes c.in-Ok.ensures.asked c.in-Ok.ensures.counted)

pub returns-else-self-clause-fills : goal.returns-else-self-clause-fills
returns-else-self-clause-fills g c =
    let s = c.args.self.now in
    let piece = c.read.new.piece in
    let full : length piece ≡ s.bytes.len = omega (arith, c.as_mut_slice.ensures.len) in
    let some : 0 < length piece = omega arith in
    let none : c.in-Ok.count ≡ 0 = omega (arith, c.if-count-gt0.false) in
    Fills-ended s _ _ _ (window-none s c.requires.spent) c.requires.not_at_end refl (ap (λ b. completed_rest b []) (sym c.if-self.false))
    (Gave-ended _ _ piece c.in-Ok.count none some c.in-Ok.ensures.bytes c.in-Ok.ensures.asked c.in-Ok.ensures.counted)
