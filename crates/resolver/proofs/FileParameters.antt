-- The first parameter of a read or a write, which may name its file.
use Rattle.std.proofs.Common.{◌≡◌, true, false, Option, Some, None, is_some, refl}
use Rattle.std.specs.Option.{option_map}
use Rattle.syntax_tree.specs.declared.Expr.{Expr}
use Rattle.typing.specs.Expressions.{Written, expression}
use Rattle.typing.specs.Passing.{pure}
use Rattle.typing.specs.Statements.{unless_wide}
use Rattle.typing.proofs.Written.{typing_actual}

-- a width makes it a value
pub wide : (value : Written) (width : Option Expr) → is_some width ≡ true → unless_wide value (option_map expression width) ≡ pure None
wide value None is = absurd cc
wide value (Some width) is = refl

pub not_wide : (value : Written) (width : Option Expr) → is_some width ≡ false → unless_wide value (option_map expression width) ≡ value.file
not_wide value None is = refl
not_wide value (Some width) is = absurd cc

pub ruleset first_forms = (typing_actual, wide, not_wide)
