-- The conditions of expressions, one by one.
use Rattle.std.proofs.Common.{arith, rules, ◌≡◌, ◌∙◌, sym, ap, refl, ℕ, suc, ◌+◌, ◌<◌, ◌==◌, ℤ, neg_ℤ, Bool, false, List, [], ◌∷◌, map, length}
use Rattle.std.proofs.Common.{get_or, drop, drop-cons, Option, Some, None}
use Rattle.meaning.specs.Integers.{integer_or_none}
use Rattle.typed_tree.specs.declared.tree.Dyadic.{Dyadic}
use Rattle.typed_tree.specs.declared.tree.Dyadic.TheVariants as dyadic
use Rattle.std.specs.declared.boxed.Box.{Box}
use Rattle.std.specs.declared.vec.Vec.{Vec}
use Rattle.std.specs.declared.alloc.Global.{Global}
use Rattle.typed_tree.specs.declared.tree.Scalar.{Scalar}
use Rattle.typed_tree.specs.declared.tree.Access.{Access}
use Rattle.typed_tree.specs.declared.tree.Monadic.{Monadic}
use Rattle.typed_tree.specs.declared.tree.Expr.{Expr}
use Rattle.typed_tree.specs.declared.tree.Link.{Link}
use Rattle.typed_tree.specs.declared.tree.Expr.TheVariants as expr
use Rattle.typed_tree.specs.declared.tree.Expr.TheFolds.{the_lemmas}
use Rattle.typed_tree.specs.Accesses.{origin_of}
use Rattle.checker_state.specs.declared.forms.Form.{Form}
use Rattle.checker_state.specs.declared.forms.Form.TheVariants.{Fixed, Entire, Other}
use Rattle.checker_state.specs.declared.forms.Spelling.{Spelling}
use Rattle.checker_state.specs.declared.forms.Spelling.TheVariants.{Literal, Computed}
use Rattle.checker_state.specs.Forms.{Operand, access_form, chain_form, computed, fixed_form, moved_form, offset_form, operated_form, operated_spelling}
use Rattle.checker_state.specs.Forms.{result_of, root_of, sign_form}
use Rattle.checker_state.specs.Conditions.{Condition, Conjunct, chain_refined, chain_tellings, condition_of, conjunct_of, monadic_refined, operand_of}
use Rattle.checker_state.specs.Conditions.{plain_condition, under}

pub condition-Constant : (ordinal : ℕ → Bool) (number : ℕ) (value : ℤ)
    → condition_of ordinal (expr.Constant number value) ≡ plain_condition (Fixed Literal value) None
condition-Constant ordinal number value = search (rules, the_lemmas)

pub condition-Variable : (ordinal : ℕ → Bool) (access : Access) (indexes : Vec Expr Global) (holds : Scalar) (defined : ℕ)
    → condition_of ordinal (expr.Variable access indexes holds defined)
    ≡ plain_condition (access_form ordinal (origin_of access) access.selectors.items)
    (Some (record { origin = origin_of access; selectors = access.selectors.items }))
condition-Variable ordinal access indexes holds defined = search (rules, the_lemmas)

pub condition-Monadic : (ordinal : ℕ → Bool) (number : ℕ) (operation : Monadic) (operand : Box Expr Global)
    → condition_of ordinal (expr.Monadic number operation operand)
    ≡ record {
      form = sign_form (condition_of ordinal operand.value).form operation;
      accessed = None;
      refined = monadic_refined operation (condition_of ordinal operand.value);
      tellings = λ truth. (condition_of ordinal operand.value).tellings (under operation truth);
    }
condition-Monadic ordinal number operation operand = search (rules, the_lemmas)

pub condition-Chain : (ordinal : ℕ → Bool) (first : Box Expr Global) (rest : Vec Link Global)
    → condition_of ordinal (expr.Chain first rest)
    ≡ record {
      form = chain_form (condition_of ordinal first.value).form (map operand_of (map (conjunct_of ordinal) rest.items));
      accessed = None;
      refined = chain_refined (condition_of ordinal first.value) (map (conjunct_of ordinal) rest.items);
      tellings = chain_tellings (condition_of ordinal first.value) (map (conjunct_of ordinal) rest.items);
    }
condition-Chain ordinal first rest = search (rules, the_lemmas)

pub conjunct-is : (ordinal : ℕ → Bool) (link : Link)
    → conjunct_of ordinal link ≡ record { operation = link.operation; right = condition_of ordinal link.operand }
conjunct-is ordinal link = search (rules, the_lemmas)

-- ---- the forms of chains

-- behind what is no part of a bound form no operator makes one
pub other-chain : (links : List Operand) → chain_form Other links ≡ Other
other-chain [] = refl
other-chain (link ∷ links) = other-chain links

pub chain-begins : (ordinal : ℕ → Bool) (e : Expr) (first : Box Expr Global) (rest : Vec Link Global) → e ≡ expr.Chain first rest
    → chain_form (condition_of ordinal first.value).form (map operand_of (map (conjunct_of ordinal) rest.items)) ≡ (condition_of ordinal e).form
chain-begins ordinal e first rest is =
    sym (ap (λ (f : Expr). (condition_of ordinal f).form) is ∙ ap (λ (c : Condition). c.form) (condition-Chain ordinal first rest))

-- an operator more
pub link-more : (ordinal : ℕ → Bool) (links : List Link) (i : ℕ) (link : Link) (form : Form) → i < length links → link ≡ get_or links i link
    → chain_form (operated_form link.operation form (condition_of ordinal link.operand).form) (map operand_of (map (conjunct_of ordinal) (drop (i + 1) links)))
    ≡ chain_form form (map operand_of (map (conjunct_of ordinal) (drop i links)))
link-more ordinal links i link form inside link_is =
    let left = λ (some : List Link). map operand_of (map (conjunct_of ordinal) some) in
    ap (λ (k : ℕ). chain_form (operated_form link.operation form (condition_of ordinal link.operand).form) (left (drop k links)))
    (let same : i + 1 ≡ suc i = omega arith in same)
    ∙ ap (λ (c : Conjunct). chain_form (operated_form c.operation form c.right.form) (left (drop (suc i) links))) (sym (conjunct-is ordinal link))
    ∙ ap (λ (l : Link). chain_form form (left (l ∷ drop (suc i) links))) link_is
    ∙ ap (λ (some : List Link). chain_form form (left some)) (sym (drop-cons links i link inside))

-- ---- what is no entire variable

fixed-root : (spelling : Spelling) (found : Option ℤ) → None ≡ root_of (fixed_form spelling found)
fixed-root spelling None = refl
fixed-root spelling (Some n) = refl

moved-root : (root : ℕ) (spelling : Spelling) (found : Option ℤ) → None ≡ root_of (moved_form root spelling found)
moved-root root spelling None = refl
moved-root root spelling (Some n) = refl

offset-root : (root : ℕ) (operation : Dyadic) (spelling : Spelling) (n : ℤ) → None ≡ root_of (offset_form root operation spelling n)
offset-root root (dyadic.Plus overflow) spelling n = refl
offset-root root (dyadic.Minus overflow) spelling n = moved-root root spelling (integer_or_none (neg_ℤ n))
offset-root root operation spelling n = refl

operated-root : (operation : Dyadic) (left right : Form) → None ≡ root_of (operated_form operation left right)
operated-root operation (Fixed spelling a) (Fixed other b) = fixed-root Computed (computed operation a b)
operated-root operation (Entire root) (Fixed spelling n) = offset-root root operation spelling n
operated-root operation left right = refl

sign-root : (form : Form) (operation : Monadic) → None ≡ root_of (sign_form form operation)
sign-root (Fixed spelling n) operation = fixed-root (operated_spelling operation spelling) (integer_or_none (result_of operation n))
sign-root form operation = refl

later-root : (form : Form) (links : List Operand) → None ≡ root_of form → None ≡ root_of (chain_form form links)
later-root form [] none = none
later-root form (link ∷ links) none = later-root (operated_form link.operation form link.form) links (operated-root link.operation form link.form)

module _ (ordinal : ℕ → Bool) (e : Expr) where
  pub monadic-root : (number : ℕ) (operation : Monadic) (operand : Box Expr Global) → e ≡ expr.Monadic number operation operand
      → None ≡ root_of (condition_of ordinal e).form
  monadic-root number operation operand is =
      sign-root (condition_of ordinal operand.value).form operation
      ∙ ap root_of
      (sym (ap (λ (f : Expr). (condition_of ordinal f).form) is ∙ ap (λ (c : Condition). c.form) (condition-Monadic ordinal number operation operand)))

  pub links-root : (first : Box Expr Global) (rest : Vec Link Global) → e ≡ expr.Chain first rest → (length rest.items == 0) ≡ false
      → None ≡ root_of (condition_of ordinal e).form
  links-root first rest is some = by rest.items some ∙ ap root_of (chain-begins ordinal e first rest is)
    where
      by : (links : List Link) → (length links == 0) ≡ false
          → None ≡ root_of (chain_form (condition_of ordinal first.value).form (map operand_of (map (conjunct_of ordinal) links)))
      by [] some = absurd (cc)
      by (link ∷ links) some =
          let left = (condition_of ordinal first.value).form in
          let right = operand_of (conjunct_of ordinal link) in
          later-root (operated_form right.operation left right.form) (map operand_of (map (conjunct_of ordinal) links))
          (operated-root right.operation left right.form)
