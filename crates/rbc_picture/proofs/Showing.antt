-- One more panel behind others.
use Rattle.std.proofs.Common.{◌≡◌, ◌∙◌, ℕ, zero, suc, ◌+◌, List, [], ◌∷◌, ◌++◌, take, subst, sym, ap}
use Rattle.std.specs.Option.{IfSome}
use Rattle.std.specs.List.{slice_get}
use Rattle.std.proofs.lemmas.List.{map-append}
use Rattle.rbc_picture.specs.Panels.{ShowEachPart, ShowsPart}
use Rattle.rbc_picture.specs.declared.panel.Panel.{Panel}
use Rattle.rbc_picture.specs.declared.scene.Scene.{Scene}
use Rattle.rbc_picture.specs.declared.selection.LinePart.{LinePart}
use Rattle.rbc_picture.proofs.Joining.{IsNext, up_to}

-- what holds of each item, and of one more
each_pushed : {A : Type 0} (P : A → Type 0) (xs : List A) (x : A) → ((n : ℕ) → IfSome (slice_get xs n) P) → P x
    → (n : ℕ) → IfSome (slice_get (xs ++ x ∷ []) n) P
each_pushed P [] x each last zero = last
each_pushed P [] x each last (suc n) = tt
each_pushed P (y ∷ ys) x each last zero = each 0
each_pushed P (y ∷ ys) x each last (suc n) = each_pushed P ys x (λ k. each (suc k)) last n

shown_more : (scene : Scene) (parts : List LinePart) (part : LinePart) (panels : List Panel) (panel : Panel) → ShowEachPart scene parts panels
    → ShowsPart scene panel → panel.part ≡ part → ShowEachPart scene (parts ++ part ∷ []) (panels ++ panel ∷ [])
shown_more scene parts part panels panel shown one is = record {
  of_parts = map-append (λ (one : Panel). one.part) panels (panel ∷ []) ∙ ap (λ (ps : List LinePart). ps ++ panel.part ∷ []) shown.of_parts
      ∙ ap (λ (p : LinePart). parts ++ p ∷ []) is;
  each = each_pushed (ShowsPart scene) panels panel shown.each one;
}

-- the panel of the next part
pub shown_next : (scene : Scene) (parts : List LinePart) (index : ℕ) (part : LinePart) (panels new : List Panel) (panel : Panel) → IsNext parts index part
    → ShowEachPart scene (take index parts) panels → ShowsPart scene panel → panel.part ≡ part → new ≡ panels ++ panel ∷ []
    → ShowEachPart scene (take (index + 1) parts) new
shown_next scene parts index part panels new panel next shown one is pushed =
    subst (λ (items : List Panel). ShowEachPart scene (take (index + 1) parts) items) (sym pushed)
    (subst (λ (ps : List LinePart). ShowEachPart scene ps (panels ++ panel ∷ [])) (sym (up_to parts index part next))
    (shown_more scene (take index parts) part panels panel shown one is))
