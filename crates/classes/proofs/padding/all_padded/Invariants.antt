-- `classes::padding::all_padded` meets its contract. The loop's invariant: the flag says whether all bytes behind those that are left
-- stand, and next is the first of them. Assumes nothing.
use mathlib.Core.Bool.{Bool}
use mathlib.Core.List.{List, ◌++◌}
use mathlib.Core.Path.{◌≡◌}
use Prim.Native.Nat.{ℕ}
use lib.ListN.{get_or}
use Rattle.classes.specs.declared.Class.{Class}
use Rattle.classes.proofs.Unpadding.{all_stand}
use Rattle.classes.proofs.padding.all_padded.Given as goal

pub record Inv (class : Class) (s left : List ℕ) (all : Bool) (next : ℕ) : Type 0 where
  pub behind : List ℕ
  pub whole : left ++ behind ≡ s
  pub stood : all ≡ all_stand class behind
  pub first : next ≡ get_or behind 0 0

abbrev pub invariant-loop-c : goal.invariant-loop-c
invariant-loop-c l = Inv l.class l.s l.c-iterator.iter.rest.now l.all l.next
