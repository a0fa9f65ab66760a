use Rattle.std.proofs.Common.{◌≡◌, rules, None, Err, subst, sym, ap, ◌∙◌}
use Rattle.reading.specs.Declarations.{program}
use Rattle.reading.proofs.Places.{program_in_order}
use Rattle.reading.proofs.Three.{one_tree}
use Rattle.token_cursor.specs.LeftOut.{first_left_out}
use Rattle.parser.specs.Syntax.{most, IsDeep, IsFaultOf, IsReadAs}
use Rattle.parser.proofs.Faults.{tree_is, tree_read, fault_is, fault_read, fault_deep}
use Rattle.parser.proofs.program.parse.Goals as goal

pub returns-in-Some-clause-one_tree : goal.returns-in-Some-clause-one_tree
returns-in-Some-clause-one_tree c = one_tree c.args.tokens.now

pub returns-in-Ok-clause-one_tree : goal.returns-in-Ok-clause-one_tree
returns-in-Ok-clause-one_tree c = one_tree c.args.tokens.now

pub returns-in-Err-clause-one_tree : goal.returns-in-Err-clause-one_tree
returns-in-Err-clause-one_tree c = one_tree c.args.tokens.now

-- ---- a tree

pub returns-in-Ok-clause-exact : goal.returns-in-Ok-clause-exact
returns-in-Ok-clause-exact c = tree_is c.args.tokens.now c.in-Ok.tree c.program.new.cursor.rest.now
    (ap (program most) (sym c.new-cursor.ensures) ∙ c.in-Ok.ensures)

pub returns-in-Ok-clause-read : goal.returns-in-Ok-clause-read
returns-in-Ok-clause-read c = tree_read c.args.tokens.now c.in-Ok.tree c.program.new.cursor.rest.now
    (ap (program most) (sym c.new-cursor.ensures) ∙ c.in-Ok.ensures)

-- it keeps its places in order where the tokens have theirs
pub returns-in-Ok-clause-in_order : goal.returns-in-Ok-clause-in_order
returns-in-Ok-clause-in_order c =
    program_in_order c.args.tokens.now c.in-Ok.tree (tree_is c.args.tokens.now c.in-Ok.tree c.program.new.cursor.rest.now
    (ap (program most) (sym c.new-cursor.ensures) ∙ c.in-Ok.ensures)).spelled

-- ---- a refusal, told as a fault of the tokens

pub returns-in-Err-clause-exact : goal.returns-in-Err-clause-exact
returns-in-Err-clause-exact c =
    let tokens = c.args.tokens.now in
    let left = c.program.new.cursor.rest.now in
    let none : first_left_out tokens ≡ None = search rules in
    subst (λ f. IsFaultOf f tokens) (sym c.fault_of.ensures)
    (fault_is tokens left c.in-Err.refusal none (λ m. ap (program most) (sym c.new-cursor.ensures) ∙ c.in-Err.ensures m))

pub returns-in-Err-clause-read : goal.returns-in-Err-clause-read
returns-in-Err-clause-read c =
    let tokens = c.args.tokens.now in
    let left = c.program.new.cursor.rest.now in
    subst (λ f. IsReadAs (Err f) tokens) (sym c.fault_of.ensures)
    (fault_read tokens left c.in-Err.refusal (λ m. ap (program most) (sym c.new-cursor.ensures) ∙ c.in-Err.ensures m))

pub returns-in-Err-clause-deep : goal.returns-in-Err-clause-deep
returns-in-Err-clause-deep c =
    let tokens = c.args.tokens.now in
    let left = c.program.new.cursor.rest.now in
    subst (IsDeep most tokens) (sym c.fault_of.ensures)
    (fault_deep tokens left c.in-Err.refusal (λ m. ap (program most) (sym c.new-cursor.ensures) ∙ c.in-Err.ensures m))
