-- When two variables are the same one, as maps and lists of variables see it.
use Rattle.std.proofs.Common.{◌≡◌, true, refl, sym, ap}
use Rattle.std.proofs.lemmas.Bool.{eqb-true, eq-eqb}
use Rattle.std.proofs.lemmas.Bool.Decides.{nat_tests}
use Rattle.std.proofs.Common.{arith}
use Rattle.std.specs.BTreeMap.{is_at}
use Rattle.std.specs.Ordering.{is_eq}
use Rattle.lk_types.specs.Variables.{same_variable}
use Rattle.lk_types.specs.contracts.ty.VariableOrd.TheImpl.{cmp-value}
use Rattle.lk_types.specs.declared.ty.Variable.{Variable}
use Rattle.lk_types.specs.declared.ty.Variable.TheVariants as variable

pub agrees : (x y : Variable) → is_eq (cmp-value.it x y) ≡ same_variable x y
agrees (variable.Plain m) (variable.Plain n) = grind (arith, nat_tests)
agrees (variable.Plain m) (variable.Row n) = refl
agrees (variable.Plain m) (variable.Effects n) = refl
agrees (variable.Row m) (variable.Plain n) = refl
agrees (variable.Row m) (variable.Row n) = grind (arith, nat_tests)
agrees (variable.Row m) (variable.Effects n) = refl
agrees (variable.Effects m) (variable.Plain n) = refl
agrees (variable.Effects m) (variable.Row n) = refl
agrees (variable.Effects m) (variable.Effects n) = grind (arith, nat_tests)

-- the test by which the map looks for a variable
pub test_is : (x : Variable) → is_at (cmp-value.it x) ≡ same_variable x
test_is x i y = agrees x y i

pub same_is : (x y : Variable) → same_variable x y ≡ true → x ≡ y
same_is (variable.Plain m) (variable.Plain n) same = ap variable.Plain (eqb-true m n same)
same_is (variable.Row m) (variable.Row n) same = ap variable.Row (eqb-true m n same)
same_is (variable.Effects m) (variable.Effects n) same = ap variable.Effects (eqb-true m n same)
same_is (variable.Plain m) (variable.Row n) same = cc
same_is (variable.Plain m) (variable.Effects n) same = cc
same_is (variable.Row m) (variable.Plain n) same = cc
same_is (variable.Row m) (variable.Effects n) same = cc
same_is (variable.Effects m) (variable.Plain n) same = cc
same_is (variable.Effects m) (variable.Row n) same = cc

pub same_sym : (x y : Variable) → same_variable x y ≡ true → y ≡ x
same_sym x y same = sym (same_is x y same)

pub same_self : (x : Variable) → same_variable x x ≡ true
same_self (variable.Plain m) = eq-eqb m m refl
same_self (variable.Row m) = eq-eqb m m refl
same_self (variable.Effects m) = eq-eqb m m refl

pub same_turned : (x y : Variable) → same_variable x y ≡ same_variable y x
same_turned (variable.Plain m) (variable.Plain n) = grind (arith, nat_tests)
same_turned (variable.Plain m) (variable.Row n) = refl
same_turned (variable.Plain m) (variable.Effects n) = refl
same_turned (variable.Row m) (variable.Plain n) = refl
same_turned (variable.Row m) (variable.Row n) = grind (arith, nat_tests)
same_turned (variable.Row m) (variable.Effects n) = refl
same_turned (variable.Effects m) (variable.Plain n) = refl
same_turned (variable.Effects m) (variable.Row n) = refl
same_turned (variable.Effects m) (variable.Effects n) = grind (arith, nat_tests)
