-- What is read of inputs, worked out by hand.
use Rattle.std.proofs.Common.{◌≡◌, pos, negsuc, true, false, [], ◌∷◌, refl}
use Rattle.std.specs.Prelude.{codes}
use Rattle.text_input.specs.declared.InputFault.TheVariants as fault
use Rattle.text_input.specs.Input.{completed, Reads, Fails, Ends, read_character, read_line, read_eoln, read_integer}

line_end_supplied : completed (codes "7") ≡ codes "7\n"
line_end_supplied = refl

no_line_end_supplied : completed (codes "7\n") ≡ codes "7\n"
no_line_end_supplied = refl

no_line : completed [] ≡ []
no_line = refl

number_behind_blanks : read_integer (codes " \n 12x") ≡ Reads (pos 12) (codes "x")
number_behind_blanks = refl

negative_number : read_integer (codes "-30 ") ≡ Reads (negsuc 29) (codes " ")
negative_number = refl

number_behind_plus : read_integer (codes "+7\n") ≡ Reads (pos 7) (codes "\n")
number_behind_plus = refl

negative_zero : read_integer (codes "-0\n") ≡ Reads (pos 0) (codes "\n")
negative_zero = refl

greatest_number : read_integer (codes "2147483647\n") ≡ Reads (pos 2147483647) (codes "\n")
greatest_number = refl

least_number : read_integer (codes "-2147483647\n") ≡ Reads (negsuc 2147483646) (codes "\n")
least_number = refl

number_too_large : read_integer (codes "2147483648\n") ≡ Fails fault.NumberTooLarge
number_too_large = refl

number_too_small : read_integer (codes "-2147483648\n") ≡ Fails fault.NumberTooLarge
number_too_small = refl

sign_without_a_digit : read_integer (codes "- 5\n") ≡ Fails fault.NotANumber
sign_without_a_digit = refl

sign_before_a_line_end : read_integer (codes "+\n") ≡ Fails fault.NotANumber
sign_before_a_line_end = refl

two_signs : read_integer (codes "+-5\n") ≡ Fails fault.NotANumber
two_signs = refl

tab_is_no_blank : read_integer (9 ∷ codes "5\n") ≡ Fails fault.NotANumber
tab_is_no_blank = refl

blanks_alone : read_integer (codes "  \n") ≡ Ends
blanks_alone = refl

number_without_a_byte_behind_it : read_integer (codes "12") ≡ Ends
number_without_a_byte_behind_it = refl

first_character : read_character (codes "ab") ≡ Reads 97 (codes "b")
first_character = refl

line_end_as_a_character : read_character (codes "\nb") ≡ Reads 32 (codes "b")
line_end_as_a_character = refl

no_character : read_character (200 ∷ codes "b") ≡ Fails fault.NotACharacter
no_character = refl

line_passed : read_line (200 ∷ codes "a\nb\n") ≡ Reads tt (codes "b\n")
line_passed = refl

at_a_line_end : read_eoln (codes "\nb") ≡ Reads true (codes "\nb")
at_a_line_end = refl

before_a_line_end : read_eoln (codes "b\n") ≡ Reads false (codes "b\n")
before_a_line_end = refl

behind_the_last_line_end : read_eoln [] ≡ Ends
behind_the_last_line_end = refl
