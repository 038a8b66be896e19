-- Functions by their names.
use Rattle.std.proofs.Common.{◌≡◌, refl, Bool, true, false, cond, [], ◌∷◌, Option, Some, None, bytes_eq}
use Rattle.lk_types.specs.Rows.{Label}
use Rattle.lk_types.specs.declared.scheme.Scheme.{Scheme}
use Rattle.lk_types.specs.declared.ty.Ty.{Ty}
use Rattle.lk_typing.specs.Groups.{scheme_entries}
use Rattle.lk_typing.specs.Names.{Named, named, Entry, One, Many}
use Rattle.lk_equations.specs.Seen.{functions_seen}

-- one of the group, or else an earlier one
abbrev pub seen_by : Option Ty → Option Scheme → Option (Entry Ty)
seen_by (Some t) earlier = Some (One t)
seen_by None (Some scheme) = Some (Many scheme)
seen_by None None = None

found_earlier : (b : Bool) (scheme : Scheme) {rest : Option (Entry Ty)} (found : Option Scheme) → rest ≡ seen_by None found
    → cond b (Some (Many scheme)) rest ≡ seen_by None (cond b (Some scheme) found)
found_earlier true scheme found is = refl
found_earlier false scheme found is = is

found_own : (b : Bool) (t : Ty) (earlier : Option Scheme) {rest : Option (Entry Ty)} (found : Option Ty) → rest ≡ seen_by found earlier
    → cond b (Some (One t)) rest ≡ seen_by (cond b (Some t) found) earlier
found_own true t earlier found is = refl
found_own false t earlier found is = is

named_earlier : (g : Label) (earlier : Named Scheme) → named g (scheme_entries {A = Ty} earlier) ≡ seen_by None (named g earlier)
named_earlier g [] = refl
named_earlier g (e ∷ es) = found_earlier (bytes_eq e.0 g) e.1 (named g es) (named_earlier g es)

pub named_seen : (g : Label) (own : Named Ty) (earlier : Named Scheme) → named g (functions_seen own earlier) ≡ seen_by (named g own) (named g earlier)
named_seen g [] earlier = named_earlier g earlier
named_seen g (e ∷ es) earlier = found_own (bytes_eq e.0 g) e.1 (named g earlier) (named g es) (named_seen g es earlier)
