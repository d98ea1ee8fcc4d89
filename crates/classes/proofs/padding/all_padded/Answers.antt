use mathlib.Core.Bool.{Bool, ◌&&◌, and_comm}
use mathlib.Core.List.{List, [], ◌∷◌, ◌++◌, append-nil}
use mathlib.Core.Path.{◌≡◌, refl, sym, ◌∙◌, ap, ap₂}
use Prim.Native.Nat.{ℕ}
use native.Mathlib.Omega.{arith}
use borrow.Author.Rules.{rules}
use lib.ListN.{length}
use lib.Seq.{append_snoc}
use Rattle.classes.specs.PaddedBytes.{stands}
use Rattle.classes.specs.declared.Class.{Class}
use Rattle.classes.proofs.Unpadding.{all_stand, all-stand}
use Rattle.classes.proofs.padding.all_padded.Invariants.{Inv}
use Rattle.classes.proofs.padding.all_padded.Goals as goal

pub loop-c-init : goal.loop-c-init
loop-c-init c = record {
  behind = [];
  whole = append-nil _ ∙ ap (λ i. i.iter.rest.now) c.into_iter-c-iterator.ensures.into_iter_gives ∙ search rules;
  stood = refl;
  first = refl;
}

-- one byte more, from the end
more : {class : Class} {s left left' : List ℕ} {all now : Bool} {next : ℕ} (c : ℕ) → Inv class s left all next
    → left ≡ left' ++ (c ∷ []) → now ≡ stands class c next → Inv class s left' (all && now) c
more {class} {left' = left'} {all = all} c h e is = record {
  behind = c ∷ h.behind;
  whole = sym (append_snoc left' c h.behind) ∙ ap (λ t. t ++ h.behind) (sym e) ∙ h.whole;
  stood = ap₂ ◌&&◌ h.stood (is ∙ ap (stands class c) h.first) ∙ and_comm (all_stand class h.behind) _;
  first = refl;
}

pub loop-c-preserved : goal.loop-c-preserved
loop-c-preserved c =
    more _ c.loop-c.invariant c.in-Some.ensures.steps c.stands-all.ensures

none_left : {class : Class} {s left : List ℕ} {all : Bool} {next : ℕ} → Inv class s left all next → length left ≡ 0 → all ≡ all_stand class s
none_left {class} {left = []} h e = h.stood ∙ ap (all_stand class) h.whole
none_left {left = x ∷ left} h e = absurd (omega arith)

pub returns : goal.returns
returns c =
    none_left c.loop-c.invariant c.in-None.ensures.steps.0 ∙ all-stand c.args.class c.args.s.now
