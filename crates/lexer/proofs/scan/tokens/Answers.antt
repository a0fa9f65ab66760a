use Rattle.std.proofs.Common.{◌≡◌, ◌++◌, ◌-◌, ◌==◌, [], ◌∷◌, length, take, drop, inr, rules, arith, sym, ◌∙◌, ap, subst}
use Rattle.std.proofs.lemmas.Bool.{false≢true}
use Rattle.std.proofs.lemmas.List.{length-drop}
use Rattle.lexer.specs.declared.token.Kind.{Kind}
use Rattle.place.specs.Place.{start, place_after}
use Rattle.lexer.specs.Piece.{offset_of}
use Rattle.lexer.specs.Tokens.{Lexeme, TokensLeave, fault_of}
use Rattle.lexer.proofs.Order.{tokens_in_order}
use Rattle.lexer.proofs.Cuts.{piece_cut, fault_within}
use Rattle.lexer.proofs.Rows.{place_behind, kept_token, kept_separator, leaves_more, place_more, place_stops, one_list, one_fault, list_or_fault}
use Rattle.lexer.proofs.scan.tokens.Goals as goal
use Rattle.lexer.proofs.scan.tokens.Goals.{in-Token+in_ok-push, in_default}

pub returns-in-Err-clause-one_list : goal.returns-in-Err-clause-one_list
returns-in-Err-clause-one_list c = one_list c.args.text.now

pub returns-in-Err-clause-one_fault : goal.returns-in-Err-clause-one_fault
returns-in-Err-clause-one_fault c = one_fault c.args.text.now

pub returns-in-Err-clause-list_or_fault : goal.returns-in-Err-clause-list_or_fault
returns-in-Err-clause-list_or_fault c = list_or_fault c.args.text.now

pub returns-in_err-push-clause-one_list : goal.returns-in_err-push-clause-one_list
returns-in_err-push-clause-one_list c = one_list c.args.text.now

pub returns-in_err-push-clause-one_fault : goal.returns-in_err-push-clause-one_fault
returns-in_err-push-clause-one_fault c = one_fault c.args.text.now

pub returns-in_err-push-clause-list_or_fault : goal.returns-in_err-push-clause-list_or_fault
returns-in_err-push-clause-list_or_fault c = list_or_fault c.args.text.now

pub returns-clause-one_list : goal.returns-clause-one_list
returns-clause-one_list c = one_list c.args.text.now

pub returns-clause-one_fault : goal.returns-clause-one_fault
returns-clause-one_fault c = one_fault c.args.text.now

pub returns-clause-list_or_fault : goal.returns-clause-list_or_fault
returns-clause-list_or_fault c = list_or_fault c.args.text.now

pub returns-clause-in_order : goal.returns-clause-in_order
returns-clause-in_order c =
    let pieces = c.loop-rest.invariant in
    tokens_in_order c.args.text.now c.loop-rest.tokens.items pieces.2 c.loop-rest.rest.now pieces.3 pieces.4

pub returns-in-Err-clause-fault : goal.returns-in-Err-clause-fault
returns-in-Err-clause-fault c =
    let text = c.args.text.now in
    let rest = c.loop-rest.rest.now in
    let why = c.in-Err.refusal in
    let pieces = c.loop-rest.invariant.2 in
    let place = ap (λ q. place_after q (take (offset_of why) rest)) c.loop-rest.invariant.5 ∙ place_stops text pieces rest
    (offset_of why) c.loop-rest.invariant.3 in
    λ _. inr (
      c.if-text-gt-MAX_TEXT.false,
      (
        pieces,
        rest,
        c.loop-rest.invariant.3,
        (λ e. false≢true (c.loop-rest-test.ensures ∙ ap (λ r. length r == 0) e)),
        why,
        sym c.in-Err.ensures,
        c.fault_of.ensures ∙ ap (fault_of why) place,
      ),
    )

pub loop-rest-preserved : goal.loop-rest-preserved
loop-rest-preserved c =
    let text = c.args.text.now in
    let rest = c.loop-rest.rest.now in
    let pieces = c.loop-rest.invariant.2 in
    let leaves = c.loop-rest.invariant.3 in
    let found = c.in-Ok.found in
    let behind : c.split_at.result.1.now ≡ drop found.1 rest = search rules in
    let front : c.split_at.result.0.now ≡ take found.1 rest = search rules in
    let same : (w : Kind) → ◌≡◌ {A = Lexeme} (record { kind = w; text = c.split_at.result.0.now; place = c.loop-rest.place })
    (record { kind = w; text = take found.1 rest; place = place_behind start text pieces }) =
    λ w i. record { kind = w; text = front i; place = c.loop-rest.invariant.5 i } in (
      search rules,
      search rules,
      pieces ++ found ∷ [],
      subst (λ r. TokensLeave text (pieces ++ found ∷ []) r) (sym behind) (leaves_more text pieces rest found leaves (sym c.in-Ok.ensures)),
      elim c.match-piece.branch [
        | in-Token+in_ok-push w ↦
            rw w.tokens-is (kept_token c.loop-rest.tokens.items w.push.new.self.items w.in-Token.kind _ text pieces rest found leaves c.loop-rest.invariant.4
            w.in_ok-push.ensures.items (same w.in-Token.kind) w.in-Token.is)
        | in_default w ↦ rw w.tokens-is (kept_separator c.loop-rest.tokens.items text pieces rest found leaves c.loop-rest.invariant.4 w.in_default.is)
      ],
      c.after-place.ensures.place ∙ (λ i. place_after (c.loop-rest.invariant.5 i) (front i)) ∙ sym (place_more start text pieces rest found leaves),
    )

pub loop-rest-init : goal.loop-rest-init
loop-rest-init c = search rules

pub fault_of-requires-clause-within : goal.fault_of-requires-clause-within
fault_of-requires-clause-within c = fault_within c.loop-rest.rest.now c.in-Err.refusal (sym c.in-Err.ensures)

pub split_at-requires : goal.split_at-requires
split_at-requires c = (piece_cut c.loop-rest.rest.now c.in-Ok.found (sym c.in-Ok.ensures)).1

pub loop-rest-smaller : goal.loop-rest-smaller
loop-rest-smaller c =
    let rest = c.loop-rest.rest.now in
    let found = c.in-Ok.found in
    let cut = piece_cut rest found (sym c.in-Ok.ensures) in
    let behind : c.split_at.result.1.now ≡ drop found.1 rest = search rules in
    let left : length c.split_at.result.1.now ≡ length rest - found.1 = ap length behind ∙ length-drop found.1 rest in
    omega (arith, cut.0, cut.1, left)
