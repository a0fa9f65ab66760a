use Rattle.std.specs.Prelude.{min}
use Rattle.std.proofs.Common.{ap, arith, length, refl, ◌∙◌, replicate, rules, subst, take}
use Rattle.std.proofs.lemmas.Int.{to_z-of_z}
use Rattle.std.specs.Int.{w32}
use mir.Val.{SFits}
use Rattle.run_ports.specs.Ports.{Passes}
use Rattle.stack_machine.specs.Texts.{byte_of, characters}
use Rattle.stack_machine.proofs.Characters.{all_characters, string_shown, Passes-character, Loses-character}
use Rattle.run_ports.proofs.Written.{Loses-more, Loses-then, Passes-none, Passes-then, PassesOrLoses-is, PassesOrLoses-err}
use Rattle.stack_machine.proofs.writing.put_string.Goals as goal

pub returns-in_err-put_blanks-clause-bytes : goal.returns-in_err-put_blanks-clause-bytes
returns-in_err-put_blanks-clause-bytes g c =
    let words = c.args.words.now in
    let blanks = c.blanks_before.result in
    let fits : SFits w32 c.args.width = search rules in
    let shown = c.min-shown.result in
    let fewer = c.min-shown.ensures ∙ ap (min (length words)) (simp to_z-of_z at c.places_of.ensures) in
    PassesOrLoses-is c.from_residual.result _ _ _ _ (string_shown words c.args.width blanks shown (simp to_z-of_z at c.blanks_before.ensures) fewer)
    (PassesOrLoses-err c.from_residual.result _ _ _ c.from_residual.ensures.0
    (Loses-more _ _ _ (replicate blanks 32) (characters (take shown words)) c.in_err-put_blanks.ensures.bytes))

pub loop-word-init : goal.loop-word-init
loop-word-init g c = (refl, Passes-none _, refl)

pub returns-in_err-put-clause-bytes : goal.returns-in_err-put-clause-bytes
returns-in_err-put-clause-bytes g c =
    let words = c.args.words.now in
    let blanks = c.blanks_before.result in
    let fits : SFits w32 c.args.width = search rules in
    let fits' : SFits w32 c.number_of.result = search rules in
    let shown = c.min-shown.result in
    let row = take shown words in
    let fewer = c.min-shown.ensures ∙ ap (min (length words)) (simp to_z-of_z at c.places_of.ensures) in
    let byte = (simp to_z-of_z at c.byte_of.ensures) ∙ ap byte_of c.number_of.ensures in
    PassesOrLoses-is c.from_residual-in_err-put.result _ _ _ _ (string_shown words c.args.width blanks shown (simp to_z-of_z at c.blanks_before.ensures) fewer)
    (PassesOrLoses-err c.from_residual-in_err-put.result _ _ _ c.from_residual-in_err-put.ensures.0
    (Loses-then _ _ _ (replicate blanks 32) (characters row) c.in_ok-put_blanks.ensures.bytes
    (Loses-character _ _ _ row c.loop-word.word-index c.byte_of.result c.loop-word-test.true byte c.loop-word.invariant.1 c.in_err-put.ensures.bytes)))

pub loop-word-preserved : goal.loop-word-preserved
loop-word-preserved g c =
    let row = take c.min-shown.result c.args.words.now in
    let fits : SFits w32 c.number_of.result = search rules in
    let byte = (simp to_z-of_z at c.byte_of.ensures) ∙ ap byte_of c.number_of.ensures in (
      omega (arith, c.in_ok-put.ensures.failures, c.loop-word.invariant.0),
      Passes-character _ _ _ row c.loop-word.word-index c.byte_of.result c.loop-word-test.true byte
          c.loop-word.invariant.1 c.in_ok-put.ensures.bytes,
      c.in_ok-put.ensures.input ∙ c.loop-word.invariant.2,
    )

pub returns-clause-bytes : goal.returns-clause-bytes
returns-clause-bytes g c =
    let words = c.args.words.now in
    let blanks = c.blanks_before.result in
    let fits : SFits w32 c.args.width = search rules in
    let shown = c.min-shown.result in
    let row = take shown words in
    let fewer = c.min-shown.ensures ∙ ap (min (length words)) (simp to_z-of_z at c.places_of.ensures) in
    let all = all_characters row c.loop-word.word-index c.loop-word-test.false in
    subst (Passes _ _) (string_shown words c.args.width blanks shown (simp to_z-of_z at c.blanks_before.ensures) fewer)
    (Passes-then _ _ _ (replicate blanks 32) (characters row) c.in_ok-put_blanks.ensures.bytes (subst (Passes _ _) all c.loop-word.invariant.1))
