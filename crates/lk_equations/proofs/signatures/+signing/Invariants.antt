use Rattle.std.proofs.Common.{◌≡◌, ◌++◌, map, drop}
use Rattle.lk_typing.specs.Signatures.{sign_all, sign_fields, signing}
use Rattle.lk_typing.specs.Unknowns.{field}
use Rattle.lk_equations.specs.Made.{signing_fields}
use Rattle.lk_equations.proofs.signatures.+signing.Given as goal

abbrev pub invariant-sign_all-loop-sig : goal.invariant-sign_all-loop-sig
invariant-sign_all-loop-sig l =
    (l.types ++ (sign_all (map signing (drop l.sig-index l.sigs)) l.next).types ≡ (sign_all (map signing l.sigs) l.initial.next).types)
    × ((sign_all (map signing (drop l.sig-index l.sigs)) l.next).next ≡ (sign_all (map signing l.sigs) l.initial.next).next)

abbrev pub invariant-sign_fields-loop-sig : goal.invariant-sign_fields-loop-sig
invariant-sign_fields-loop-sig l =
    (l.fields ++ map field (sign_fields (signing_fields (drop l.sig-index l.sigs)) l.next).fields ≡ map field (sign_fields (signing_fields l.sigs) l.initial.next).fields)
    × ((sign_fields (signing_fields (drop l.sig-index l.sigs)) l.next).next ≡ (sign_fields (signing_fields l.sigs) l.initial.next).next)
