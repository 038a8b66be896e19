use Rattle.std.proofs.Common.{◌≡◌, sym, ap, subst, ◌∙◌, ◌+◌, ◌<◌, ◌^◌, List, [], ◌∷◌, ◌++◌, length, arith}
use Rattle.lk_classes.specs.declared.forest.Member.{Member}
use Rattle.lk_classes.specs.declared.forest.Link.TheVariants.{Name}
use Rattle.lk_classes.specs.Forest.{IsForest}
use Rattle.lk_classes.proofs.Trees.{added, are_classes, is_forest, names_of-forest}
use Rattle.lk_classes.proofs.classes.Classes.add.Goals as goal

counted : (c : goal.In_ok-push) → c.count-count.result ≡ length c.self.inside.members.items
counted c = c.count-count.ensures.count ∙ ap length (sym c.self.view_is) ∙ c.self.invariant.classes.count

grown : (c : goal.In_ok-push) → IsForest c.push.new.self.items (c.args.self.now ++ length c.args.self.now ∷ [])
grown c =
    let ms : List Member = c.self.inside.members.items in
    let n : c.count-count.result ≡ length ms = counted c in
    let below : length ms < 2 ^ 64 = c.self.invariant.few in
    let few : length ms + 1 < 2 ^ 64 = omega arith in
    subst (λ items. IsForest items (c.args.self.now ++ length c.args.self.now ∷ [])) (sym (c.in_ok-push.ensures.items ∙ ap (λ m. ms ++ record { size = 1; link = Name m } ∷ []) n))
    (subst (λ m. IsForest (ms ++ record { size = 1; link = Name (length ms) } ∷ []) (c.args.self.now ++ m ∷ [])) (sym n ∙ c.count-count.ensures.count)
    (added (subst (IsForest ms) c.self.view_is c.self.invariant) few))

pub invariant_of-self-2 : goal.invariant_of-self-2
invariant_of-self-2 c = is_forest (grown c)

pub returns-clause-ok : goal.returns-clause-ok
returns-clause-ok c = names_of-forest (grown c)

pub returns-clause-classes : goal.returns-clause-classes
returns-clause-classes c = are_classes (grown c)
