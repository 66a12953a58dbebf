-- What holds of an answer that is known.
use Rattle.std.specs.Prelude.{◌≡◌, Option, None, Some, Result, Ok, Err, IfOk, IfNone, IfSome}
use Rattle.std.proofs.Common.{sym}
use Rattle.ip_defs.specs.declared.certificates.Cert.{Cert}
use Rattle.ip_defs.specs.declared.memory.Memory.{Memory}

pub of-answer : (P : Cert → Type 0) (o : Option Cert) (r : Result (Option Cert) Memory) → ((c : Cert) → o ≡ Some c → P c) →
    IfOk r (λ a. a ≡ o) → IfOk r (λ a. IfSome a P)
of-answer P o (Err e) h k = tt
of-answer P o (Ok None) h k = tt
of-answer P o (Ok (Some c)) h k = h c (sym k)

pub of-no-answer : (P : Type 0) (o : Option Cert) (r : Result (Option Cert) Memory) → (o ≡ None → P) → IfOk r (λ a. a ≡ o) →
    IfOk r (λ a. IfNone a P)
of-no-answer P o (Err e) h k = tt
of-no-answer P o (Ok None) h k = h (sym k)
of-no-answer P o (Ok (Some c)) h k = tt
