-- Words of `pcom`, worked out.
use Rattle.std.proofs.Common.{◌≡◌, true, List, [], ◌∷◌, Some, None, codes, refl}
use Rattle.clap.specs.Words.{Text, is_simple}
use Rattle.clap.specs.Faults.{fault_of, is_simple_and_free}
use Rattle.clap.specs.declared.error.kind.ErrorKind.TheVariants as kind
use Rattle.clap.proofs.OnLiterals.{clap_on_literals}
use Rattle.command_line.specs.Pcom.{certificate_in, code_in, go_in, keep_checks_in, pcom, source_in, write_in}

pub pcom_is_simple : is_simple pcom ≡ true
unfolding clap_on_literals
pcom_is_simple = refl

pub pcom_is_free : is_simple_and_free pcom ≡ true
unfolding clap_on_literals
pcom_is_free = refl

-- all of it
abbrev run : List Text
run = codes "pcom" ∷ codes "--go" ∷ codes "hello.pas" ∷ codes "--cert" ∷ codes "hello.cert" ∷ codes "--keep-checks" ∷ codes "hello.code" ∷ []

abbrev listed : List Text
listed = codes "pcom" ∷ codes "hello.pas" ∷ []

run_faultless : fault_of pcom run ≡ []
unfolding clap_on_literals
run_faultless = refl

source_run : source_in run ≡ Some (codes "hello.pas")
unfolding clap_on_literals
source_run = refl

code_run : code_in run ≡ Some (codes "hello.code")
unfolding clap_on_literals
code_run = refl

certificate_run : certificate_in run ≡ Some (codes "hello.cert")
unfolding clap_on_literals
certificate_run = refl

write_run : write_in run ≡ None
unfolding clap_on_literals
write_run = refl

keep_checks_run : keep_checks_in run ≡ Some (codes "true")
unfolding clap_on_literals
keep_checks_run = refl

go_run : go_in run ≡ Some (codes "true")
unfolding clap_on_literals
go_run = refl

write_saved : write_in (codes "pcom" ∷ codes "--write-cert" ∷ codes "new.cert" ∷ codes "hello.pas" ∷ []) ≡ Some (codes "new.cert")
unfolding clap_on_literals
write_saved = refl

source_listed : source_in listed ≡ Some (codes "hello.pas")
unfolding clap_on_literals
source_listed = refl

code_listed : code_in listed ≡ None
unfolding clap_on_literals
code_listed = refl

certificate_listed : certificate_in listed ≡ None
unfolding clap_on_literals
certificate_listed = refl

keep_checks_listed : keep_checks_in listed ≡ Some (codes "false")
unfolding clap_on_literals
keep_checks_listed = refl

go_listed : go_in listed ≡ Some (codes "false")
unfolding clap_on_literals
go_listed = refl

needs_a_source : fault_of pcom (codes "pcom" ∷ codes "--go" ∷ []) ≡ kind.MissingRequiredArgument ∷ []
unfolding clap_on_literals
needs_a_source = refl

no_third_path : fault_of pcom (codes "pcom" ∷ codes "a" ∷ codes "b" ∷ codes "c" ∷ []) ≡ kind.UnknownArgument ∷ []
unfolding clap_on_literals
no_third_path = refl
