use Rattle.std.proofs.Common.{◌≡◌, ◌≤◌, Result, Ok, Err, IfOk, length, subst, sym, ap, ◌∙◌, arith}
use Rattle.std.specs.Prelude.{map, filter}
use Rattle.check_remover.specs.Strip.{is_among, moved, stays, strip, strip_by}
use Rattle.check_remover.specs.Places.{new_place}
use Rattle.check_remover.proofs.Moves.{kept-strip_by, new_place-le}
use Rattle.check_remover.proofs.remove.stripped.Goals as goal

-- the places are those of the code
pub kept-requires : goal.kept-requires
kept-requires c =
    let same = sym c.as_slice.ensures.value in
    record {
      some = subst (λ places. 1 ≤ length places) same (omega (arith, c.in_ok-places.ensures.count));
      small = λ place.
          subst (λ places. new_place places place ≤ place) same
          (new_place-le (is_among c.in_ok-open_sites.open_sites) c.as_slice-instructions.result.now c.in_ok-places.places.items c.in_ok-places.ensures place);
    }

so_as : {A E : Type 0} {P Q : A → Type 0} (r : Result A E) → IfOk r P → ((a : A) → P a → Q a) → IfOk r Q
so_as (Ok a) h so = so a h
so_as (Err e) h so = h

-- what is kept is the stripped code
pub returns : goal.returns
returns c =
    let open_sites = c.in_ok-open_sites.open_sites in
    let code = c.as_slice-instructions.result.now in
    so_as c.kept.result c.kept.ensures
    (λ rest is.
    kept-strip_by (is_among open_sites) code rest.items c.in_ok-places.places.items c.in_ok-places.ensures
    (subst (λ places. rest.items ≡ map (moved (new_place places)) (filter (stays (is_among open_sites)) code)) c.as_slice.ensures.value is)
    ∙ ap (λ sites. strip_by (is_among sites) code) c.in_ok-open_sites.ensures
    ∙ ap (strip c.args.open_sites.now) c.as_slice-instructions.ensures.value)
