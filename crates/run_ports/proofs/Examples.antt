-- What is left of inputs, and what a reader gave before its calls, worked out by hand.
use Rattle.std.proofs.Common.{◌≡◌, true, false, [], ◌∷◌, ◌++◌, refl, ap, ◌∙◌}
use Rattle.std.specs.Prelude.{codes}
use Rattle.text_input.specs.Input.{Reads, Ends}
use Rattle.run_ports.specs.declared.input.Input.{Input}
use Rattle.run_ports.specs.Feeding.{before_calls, behind, failing, joined, left, readable, readable_rest, whole, window}
use Rattle.run_ports.specs.Ports.{pieces_of}
use Rattle.run_ports.specs.Reads.{read_end}
use Rattle.run_ports.proofs.Filled.{left-ended, left-goes}

line_end_supplied : readable (whole (codes "7")) ≡ codes "7\n"
line_end_supplied = refl

no_line_end_supplied : readable (whole (codes "7\n")) ≡ codes "7\n"
no_line_end_supplied = refl

no_line : readable (whole []) ≡ []
no_line = refl

no_line_end_behind_a_failure : readable (failing (codes "7")) ≡ codes "7"
no_line_end_behind_a_failure = refl

-- "ab" is held, and a line is begun
line_end_behind_what_is_held : (input : Input) → window input ≡ codes "ab" → input.is_at_end ≡ false → input.is_in_line ≡ true
    → left input (whole []) ≡ codes "ab\n"
line_end_behind_what_is_held input held goes line =
    left-goes input (codes "ab") (whole []) held goes ∙ ap (λ b. codes "ab" ++ readable_rest b (whole [])) line

-- "a\n" is held, and the line is ended
line_behind_what_is_held : (input : Input) → window input ≡ codes "a\n" → input.is_at_end ≡ false → input.is_in_line ≡ false
    → left input (whole (codes "b")) ≡ codes "a\nb\n"
line_behind_what_is_held input held goes line =
    left-goes input (codes "a\n") (whole (codes "b")) held goes ∙ ap (λ b. codes "a\n" ++ readable_rest b (whole (codes "b"))) line

-- nothing comes behind the end
nothing_behind_the_end : (input : Input) → window input ≡ codes "\n" → input.is_at_end ≡ true → left input (whole (codes "b")) ≡ codes "\n"
nothing_behind_the_end input held ended = left-ended input (codes "\n") (whole (codes "b")) held ended

three_calls : before_calls [] (codes "a" ∷ codes "bc" ∷ [] ∷ []) ≡ [] ∷ codes "a" ∷ codes "abc" ∷ []
three_calls = refl

no_call : before_calls (codes "a") [] ≡ []
no_call = refl

two_pieces : readable (behind (joined (codes "a" ∷ codes "bc" ∷ [])) (whole [])) ≡ codes "abc\n"
two_pieces = refl

at_the_end : read_end false [] ≡ Reads true []
at_the_end = refl

before_the_end : read_end true (codes "\n") ≡ Reads false (codes "\n")
before_the_end = refl

end_behind_a_failure : read_end true [] ≡ Ends
end_behind_a_failure = refl

pieces_of_an_output : pieces_of 8200 ≡ 4096 ∷ 4096 ∷ 8 ∷ []
pieces_of_an_output = refl
