use Rattle.std.proofs.Common.{◌≡◌, ◌∙◌, ℕ, ◌+◌, ◌<◌, List, [], ◌∷◌, ◌++◌, ap, append_assoc, arith, drop, get_or, length, map, sym, take}
use Rattle.std.specs.Prelude.{slice_set}
use Rattle.std.proofs.lemmas.List.{drop_more, get_or_at, length-map, length-take-le, map_more, set_at}
use Rattle.pcode_assembler.specs.Contents.{going_to, named}
use Rattle.pcode_assembler.specs.Reading.{seen_by}
use Rattle.pcode_assembler.proofs.labels.Labels.resolve_all.Goals as goal

-- one more element of a list gives way to what a function gives of it
written_next : {X : Type 0} (f : X → X) (xs ys : List X) (i : ℕ) (d y : X) → i < length xs → ys ≡ map f (take i xs) ++ drop i xs → y ≡ f (get_or ys i d)
    → slice_set ys i y ≡ map f (take (i + 1) xs) ++ drop (i + 1) xs
written_next f xs ys i d y within so_far new =
    let front = map f (take i xs) in
    let here = get_or xs i d in
    let behind = drop (i + 1) xs in
    let long : length front ≡ i = length-map (take i xs) f ∙ length-take-le i xs (omega (arith, within)) in
    let now : ys ≡ front ++ here ∷ behind = so_far ∙ ap (λ l. front ++ l) (drop_more xs i d within) in
    let is : y ≡ f here = new ∙ ap (λ l. f (get_or l i d)) now ∙ ap f (get_or_at front here behind d i long) in
    ap (λ l. slice_set l i y) now ∙ set_at front here behind y i long ∙ ap (λ z. front ++ z ∷ behind) is
    ∙ sym (append_assoc front (f here ∷ []) behind) ∙ ap (λ l. l ++ behind) (sym (map_more f xs i d within))

pub loop-instr-preserved : goal.loop-instr-preserved
loop-instr-preserved c =
    let f = going_to (named (seen_by c.args.self.now)) in
    written_next f c.args.instructions.now c.loop-instr.instructions c.loop-instr.instr-index c.instr-item.result c.resolve.new.instr
    (omega (arith, c.loop-instr-test.true)) c.loop-instr.invariant c.resolve.ensures
