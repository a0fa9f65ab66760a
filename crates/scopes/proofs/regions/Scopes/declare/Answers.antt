use Rattle.std.proofs.Common.{rules, ◌≡◌, ◌<◌, ◌-◌, true, false, inr, map, reverse, vec_len, slice_set, sym, ap, subst, is_ok, ◌∙◌, Result, Ok, Err, OnErr}
use Rattle.std.specs.HashMap.{get, get_by}
use Rattle.scopes.specs.Scopes.{region_of, is_defined, define}
use Rattle.scopes.specs.declared.fault.ScopeFault.TheVariants as fault
use Rattle.scopes.proofs.Inserts.{is_key, key_eq, defines_last, defined_in_last, may_define_last, written_again}
use Rattle.scopes.proofs.regions.Scopes.declare.Goals as goal

-- the innermost region takes the definition
pub returns-clause-defined : goal.returns-clause-defined
returns-clause-defined c =
    let blocks = c.self.inside.blocks in
    let region = c.in-Some.region.now in
    let new : is_defined (get key_eq region c.args.name) ≡ false =
    ap (λ name. is_defined (get_by (is_key name) region)) (sym c.deref.ensures.value) ∙ sym c.is_defined.ensures ∙ c.if-is_defined.false in
    let some : 0 < vec_len blocks = c.last_mut.ensures.variant.0 (search rules) in
    subst (λ old. define c.args.name.items c.args.denotation old ≡ Ok
    (reverse (map region_of (slice_set blocks.items (vec_len blocks - 1) c.insert.new.self)))) c.self.view_is
    (defines_last blocks.items (vec_len blocks) region blocks.ok.0 some c.in-Some.ensures.value c.args.name c.args.denotation
    c.insert.new.self c.in_ok-insert.ensures.entries new)

-- the innermost region has it already
pub returns-then-is_defined-clause-refused : goal.returns-then-is_defined-clause-refused
returns-then-is_defined-clause-refused c =
    let blocks = c.self.inside.blocks in
    let region = c.in-Some.region.now in
    let there : is_defined (get key_eq region c.args.name) ≡ true =
    ap (λ name. is_defined (get_by (is_key name) region)) (sym c.deref.ensures.value) ∙ sym c.is_defined.ensures ∙ c.if-is_defined.true in
    let some : 0 < vec_len blocks = c.last_mut.ensures.variant.0 (search rules) in
    inr (subst (λ old. define c.args.name.items c.args.denotation old ≡ Err fault.DeclaredTwice) c.self.view_is
    (defined_in_last blocks.items (vec_len blocks) region blocks.ok.0 some c.in-Some.ensures.value c.args.name c.args.denotation there))

-- where memory is wanted the innermost region might have taken it
pub returns-in_err-insert-clause-memory : goal.returns-in_err-insert-clause-memory
returns-in_err-insert-clause-memory c = λ _.
    let blocks = c.self.inside.blocks in
    let region = c.in-Some.region.now in
    let new : is_defined (get key_eq region c.args.name) ≡ false =
    ap (λ name. is_defined (get_by (is_key name) region)) (sym c.deref.ensures.value) ∙ sym c.is_defined.ensures ∙ c.if-is_defined.false in
    let some : 0 < vec_len blocks = c.last_mut.ensures.variant.0 (search rules) in
    subst (λ old. is_ok (define c.args.name.items c.args.denotation old) ≡ true) c.self.view_is
    (may_define_last blocks.items (vec_len blocks) region blocks.ok.0 some c.in-Some.ensures.value c.args.name c.args.denotation new)

on_err : {A E P : Type 0} (answer : Result A E) → P → OnErr answer P
on_err (Ok a) p = tt
on_err (Err e) p = p

-- the innermost region has the entries that it had
pub returns-in_err-insert-clause-unchanged : goal.returns-in_err-insert-clause-unchanged
returns-in_err-insert-clause-unchanged c =
    let blocks = c.self.inside.blocks in
    let some : 0 < vec_len blocks = c.last_mut.ensures.variant.0 (search rules) in
    on_err c.from_residual.result (subst (λ old. reverse (map region_of (slice_set blocks.items (vec_len blocks - 1) c.insert.new.self)) ≡ old) c.self.view_is
    (written_again blocks.items (vec_len blocks) c.in-Some.region.now blocks.ok.0 some c.in-Some.ensures.value c.args.name c.args.denotation
    c.insert.new.self c.in_err-insert.ensures.err))
