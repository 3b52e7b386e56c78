-- Names that are read are what the definitions read, unless memory ran out.
use Rattle.std.specs.Prelude.{◌≡◌, List, Result, Ok, IfOk, IfErr}
use Rattle.ls_cutting.specs.{Text}
use Rattle.ls_domain.specs.Domains.{IsDomainFault}
use Rattle.ls_domain.specs.declared.domain_fault.DomainFault.{DomainFault}

-- the names of a domain, or why they are none
pub record AreNamesRead (reading read : Result (List Text) DomainFault) : Type 0 where
  pub names : IfOk read (λ names. reading ≡ Ok names)
  pub fault : IfErr read (IsDomainFault reading)
