-- One class's turn, and the turns of all classes one after the other. Assumes nothing.
use Rattle.std.proofs.Common.{◌≡◌, ℕ, ◌+◌, ◌-◌, ◌<◌, ◌≤◌, min, List, [], ◌∷◌, Ok, Result, length, get_or, drop, replicate, sym, refl, ap, ◌∙◌, subst, arith}
use Rattle.std.proofs.lemmas.List.{at_drop_more, at_drop_all}
use Rattle.division.specs.declared.refusal.RuleRefusal.{RuleRefusal}
use Rattle.division.specs.Amounts.{total, plus, nothing}
use Rattle.division.specs.AmountLaws.{length-plus, slice_index-plus, total-plus, length-nothing, slice_index-nothing, total-nothing, same_amounts}
use Rattle.division.specs.Problem.{Sound, Meaning, Lawful}
use Rattle.operators.specs.Operators.{of_class, served}
use Rattle.operators.specs.ClassLaws.{class_share, class_sound, length-of_class, length-served}

-- the claims of a class and its share, as they are handed to the rule below
pub record Turn (class : ℕ) (classes claims : List ℕ) (left : ℕ) (mine : List ℕ) (share : ℕ) : Type 0 where
  pub mine_is : mine ≡ of_class class classes claims
  pub share_is : share ≡ class_share class classes claims left
  pub sound : Sound mine share
  pub as_long : length mine ≡ length claims

pub turn : (class : ℕ) (classes claims : List ℕ) (left : ℕ) (mine : List ℕ) (sum share estate : ℕ) → Sound claims estate → mine ≡ of_class class classes claims → sum ≡ total mine → share ≡ min sum left → Turn class classes claims left mine share
turn class classes claims left mine sum share estate s mine_is added smaller =
    let share_is : share ≡ class_share class classes claims left = smaller ∙ ap (λ n. min n left) (added ∙ ap total mine_is) in
    record {
      mine_is = mine_is;
      share_is = share_is;
      sound = subst (λ n. Sound mine n) (sym share_is) (subst (λ xs. Sound xs (class_share class classes claims left)) (sym mine_is) (class_sound class classes claims estate s left));
      as_long = ap length mine_is ∙ length-of_class class classes claims;
    }

-- what the turn adds is as long as the claims, and adds up to the share
pub turn_shares : {class : ℕ} {classes claims : List ℕ} {left : ℕ} {mine : List ℕ} {share : ℕ} → Turn class classes claims left mine share → (f : Meaning) → Lawful f → (part : List ℕ) → part ≡ f mine share → (length part ≡ length claims) × (total part ≤ left)
turn_shares {class} {classes} {claims} {left} {mine} {share} t f law part e =
    let shared = law mine share t.sound in
    (omega (arith, ap length e, shared.as_long, t.as_long), omega (arith, ap total e, shared.spent, t.share_is))

replicate_nothing : (claims : List ℕ) → replicate (length claims) 0 ≡ nothing claims
replicate_nothing [] = refl
replicate_nothing (c ∷ cs) = ap (λ xs. 0 ∷ xs) (replicate_nothing cs)

-- adding to nothing, adding nothing, and adding in another order
plus_none_left : (claims xs : List ℕ) → length xs ≡ length claims → plus (nothing claims) xs ≡ xs
plus_none_left claims xs long =
    same_amounts (plus (nothing claims) xs) xs (omega (arith, length-plus (nothing claims) xs (omega (arith, length-nothing claims)), length-nothing claims)) (λ i.
    omega (arith, slice_index-plus (nothing claims) xs i, slice_index-nothing claims i))

plus_none_right : (claims xs : List ℕ) → length xs ≡ length claims → plus xs (nothing claims) ≡ xs
plus_none_right claims xs long =
    same_amounts (plus xs (nothing claims)) xs (length-plus xs (nothing claims) (omega (arith, length-nothing claims))) (λ i.
    omega (arith, slice_index-plus xs (nothing claims) i, slice_index-nothing claims i))

plus_turned : (xs ys zs : List ℕ) → length xs ≡ length ys → length ys ≡ length zs → plus (plus xs ys) zs ≡ plus ys (plus xs zs)
plus_turned xs ys zs p q =
    let long_xy = length-plus xs ys p in
    let long_xz = length-plus xs zs (p ∙ q) in
    let long_left = length-plus (plus xs ys) zs (omega arith) in
    let long_right = length-plus ys (plus xs zs) (omega arith) in
    same_amounts (plus (plus xs ys) zs) (plus ys (plus xs zs)) (omega arith) (λ i.
    omega (arith, slice_index-plus (plus xs ys) zs i, slice_index-plus xs ys i, slice_index-plus ys (plus xs zs) i, slice_index-plus xs zs i))

-- the classes before `place` in the order have been served: with what the others will get, the awards are whole
pub record SoFar (order classes : List ℕ) (f : Meaning) (claims : List ℕ) (estate place : ℕ) (held : List ℕ) (left : ℕ) : Type 0 where
  pub long : length held ≡ length claims
  pub balance : total held + left ≡ estate
  pub whole : plus held (served (drop place order) classes f claims left) ≡ served order classes f claims estate

module _ (order classes : List ℕ) (f : Meaning) (law : Lawful f) (claims : List ℕ) (estate : ℕ) (s : Sound claims estate) where
  pub so_far_none : (room : ℕ) (held : List ℕ) → room ≡ length claims → held ≡ replicate room 0 → SoFar order classes f claims estate 0 held estate
  so_far_none room held room_is cleared =
      let held_is = cleared ∙ ap (λ n. replicate n 0) room_is ∙ replicate_nothing claims in
      record {
        long = ap length held_is ∙ length-nothing claims;
        balance = omega (arith, ap total held_is, total-nothing claims);
        whole = rw held_is (plus_none_left claims (served order classes f claims estate) (length-served order classes f law claims estate s estate));
      }

  pub so_far_more : (place : ℕ) (held : List ℕ) (left : ℕ) → SoFar order classes f claims estate place held left → place < length order → (class : ℕ) → class ≡ get_or order place 0 → (held' : List ℕ) (left' : ℕ) → left' ≡ left - class_share class classes claims left → held' ≡ plus (f (of_class class classes claims) (class_share class classes claims left)) held → SoFar order classes f claims estate (place + 1) held' left'
  so_far_more place held left so within class is held' left' less_left more_held =
      let share = class_share class classes claims left in
      let part = f (of_class class classes claims) share in
      let others = served (drop (place + 1) order) classes f claims (left - share) in
      let shared = law (of_class class classes claims) share (class_sound class classes claims estate s left) in
      let long_part : length part ≡ length held = omega (arith, shared.as_long, length-of_class class classes claims, so.long) in
      let long_others = length-served (drop (place + 1) order) classes f law claims estate s (left - share) in
      let next : served (drop place order) classes f claims left ≡ plus part others = at_drop_more (λ ks. served ks classes f claims left) order place 0 within ∙ ap (λ k. served (k ∷ drop (place + 1) order) classes f claims left) (sym is) in
      record {
        long = omega (arith, ap length more_held, length-plus part held long_part, long_part, so.long);
        balance = omega (arith, ap total more_held, total-plus part held, shared.spent, so.balance, less_left);
        whole = ap (λ xs. plus xs (served (drop (place + 1) order) classes f claims left')) more_held ∙ ap (λ n. plus (plus part held) (served (drop (place + 1) order) classes f claims n)) less_left ∙ plus_turned part held others long_part (omega (arith, long_others, so.long)) ∙ ap (λ xs. plus held xs) (sym next) ∙ so.whole;
      }

  pub so_far_all : (place : ℕ) (held : List ℕ) (left : ℕ) → SoFar order classes f claims estate place held left → length order ≤ place → held ≡ served order classes f claims estate
  so_far_all place held left so past =
      let none = at_drop_all (λ ks. served ks classes f claims left) order place past in
      sym (plus_none_right claims held so.long) ∙ ap (λ xs. plus held xs) (sym none) ∙ so.whole

-- what a turn answers is left
pub same_left : (answer : Result ℕ RuleRefusal) (left more : ℕ) → answer ≡ Ok left → answer ≡ Ok more → left ≡ more
same_left answer left more was is = cc
