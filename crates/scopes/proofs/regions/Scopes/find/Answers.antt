use Rattle.std.proofs.Common.{◌≡◌, Option, Some, None, Result, refl, sym, ap, ◌∙◌, map, reverse}
use Rattle.std.specs.Option.{ok_or}
use Rattle.scopes.specs.Scopes.{decided, found, region_of}
use Rattle.scopes.specs.declared.denotation.Denotation.{Denotation}
use Rattle.scopes.specs.declared.fault.ScopeFault.{ScopeFault}
use Rattle.scopes.specs.declared.fault.ScopeFault.TheVariants as fault
use Rattle.scopes.proofs.Inserts.{decides_last}
use Rattle.scopes.proofs.regions.Scopes.find.Goals as goal

-- a region that lists the name decides by itself
decides_alone : (says : Option Denotation) (outer : Result Denotation ScopeFault) → ok_or says fault.UsedBeforeDeclared ≡ decided (Some says) outer
decides_alone None outer = refl
decides_alone (Some denotation) outer = refl

-- the innermost of those that are left lists the name
pub returns-in-Some-get : goal.returns-in-Some-get
returns-in-Some-get c =
    let name = c.args.name.now in
    let outer = found (reverse (map region_of c.in-Some.outer.now)) name in
    c.ok_or.ensures.value
    ∙ decides_alone c.in-Some-get.says.now outer
    ∙ ap (λ says. decided says outer) c.in-Some-get.ensures.value
    ∙ sym (decides_last c.loop-innermost.regions.now c.in-Some.outer.now c.in-Some.innermost.now name c.in-Some.ensures.cases.0)
    ∙ c.loop-innermost.invariant
    ∙ ap (λ tables. found (reverse (map region_of tables)) name) c.as_slice-regions.ensures.value
    ∙ ap (λ regions. found regions name) c.self.view_is

-- it doesn't, and those round it are left
pub loop-innermost-preserved : goal.loop-innermost-preserved
loop-innermost-preserved c =
    let name = c.args.name.now in
    let outer = found (reverse (map region_of c.in-Some.outer.now)) name in
    ap (λ says. decided says outer) c.in_default-get.ensures.value
    ∙ sym (decides_last c.loop-innermost.regions.now c.in-Some.outer.now c.in-Some.innermost.now name c.in-Some.ensures.cases.0)
    ∙ c.loop-innermost.invariant
