-- Values from words, at each shape and one part after another.
use Rattle.std.proofs.Common.{◌≡◌, ℕ, List, [], ◌∷◌, ◌++◌, map, replicate, ◌+◌, add-one, sym, ap, append_assoc, ◌∙◌}
use Rattle.std.proofs.lemmas.List.{map-append}
use Rattle.pan_tree.specs.Value.{Value as Meant}
use Rattle.pan_tree.specs.declared.shape.Shape.{Shape, Shape-F, fold-roll-Shape, roll-Shape, map-Shape}
use Rattle.pan_tree.specs.declared.shape.Shape.TheOpen as open_shape
use Rattle.pan_tree.specs.declared.shape.Shape.TheVariants as shape
use Rattle.pan_tree.specs.Shapes.{Filling, fill_layer, filling, fill_word, fill_each, struct_of}
use Rattle.pan_runner.specs.declared.value.Value.{Value}
use Rattle.pan_runner.specs.declared.value.Value.TheVariants as value
use Rattle.pan_runner.specs.Told.{told, all_told}
use Rattle.pan_runner.proofs.ToldLayers.{told_struct}

filling_roll : (x : Shape-F Shape) (ns : List ℕ) → filling (roll-Shape x) ns ≡ fill_layer (map-Shape Shape Filling filling x) ns
unfolding filling
filling_roll x ns = ap (λ f. f ns) (fold-roll-Shape Filling fill_layer x)

pub filling_word : (ns : List ℕ) → filling shape.Word ns ≡ fill_word ns
filling_word ns = ap (λ s. filling s ns) (sym shape.rolls-Word) ∙ filling_roll open_shape.Word ns

pub filling_words : (n : ℕ) (ns : List ℕ) → filling (shape.Words n) ns ≡ struct_of (fill_each (replicate n fill_word) ns)
filling_words n ns = ap (λ s. filling s ns) (sym (shape.rolls-Words n)) ∙ filling_roll (open_shape.Words n) ns

pub filling_group : (shapes : List Shape) (ns : List ℕ) → filling (shape.Group shapes) ns ≡ struct_of (fill_each (map filling shapes) ns)
filling_group shapes ns = ap (λ s. filling s ns) (sym (shape.rolls-Group shapes)) ∙ filling_roll (open_shape.Group shapes) ns

pub ruleset fill_rules = (filling_word, filling_words, filling_group)

-- ---- structs

-- a struct whose parts are told so
struct_told : (parts : List Value) (rest : List ℕ) (p : List Meant × List ℕ) → (all_told parts, rest) ≡ p → (told (value.Struct parts), rest) ≡ struct_of p
struct_told parts rest p is = ap (λ v. (v, rest)) (told_struct parts) ∙ ap struct_of is

pub words_told : (s : Shape) (n : ℕ) (parts : List Value) (ns rest : List ℕ) → s ≡ shape.Words n → (all_told parts, rest) ≡ fill_each (replicate n fill_word) ns → (told (value.Struct parts), rest) ≡ filling s ns
words_told s n parts ns rest is filled = struct_told parts rest _ filled ∙ sym (ap (λ s. filling s ns) is ∙ filling_words n ns)

pub group_told : (s : Shape) (shapes : List Shape) (parts : List Value) (ns rest : List ℕ) → s ≡ shape.Group shapes → (all_told parts, rest) ≡ fill_each (map filling shapes) ns → (told (value.Struct parts), rest) ≡ filling s ns
group_told s shapes parts ns rest is filled = struct_told parts rest _ filled ∙ sym (ap (λ s. filling s ns) is ∙ filling_group shapes ns)

-- ---- one after another

-- values behind others
abbrev pub behind : List Meant → List Meant × List ℕ → List Meant × List ℕ
behind vs p = (vs ++ p.0, p.1)

fill_more : (vs : List Meant) (f : Filling) (fs : List Filling) (ns : List ℕ) → behind vs (fill_each (f ∷ fs) ns) ≡ behind (vs ++ (f ns).0 ∷ []) (fill_each fs (f ns).1)
fill_more vs f fs ns = ap (λ ws. (ws, (fill_each fs (f ns).1).1)) (sym (append_assoc vs ((f ns).0 ∷ []) (fill_each fs (f ns).1).0))

-- one more value, as the code finds it
pub fill_step : (vs : List Value) (v : Value) (f : Filling) (fs : List Filling) (ns rest : List ℕ) → (told v, rest) ≡ f ns → behind (all_told vs) (fill_each (f ∷ fs) ns) ≡ behind (all_told (vs ++ v ∷ [])) (fill_each fs rest)
fill_step vs v f fs ns rest is =
    fill_more (all_told vs) f fs ns
    ∙ ap (λ p. behind (all_told vs ++ p.0 ∷ []) (fill_each fs p.1)) (sym is)
    ∙ ap (λ ws. behind ws (fill_each fs rest)) (sym (map-append told vs (v ∷ [])))

pub fill_word_step : (vs : List Value) (v : Value) (n m : ℕ) (ns rest : List ℕ) → n ≡ m + 1 → (told v, rest) ≡ fill_word ns → behind (all_told vs) (fill_each (replicate n fill_word) ns) ≡ behind (all_told (vs ++ v ∷ [])) (fill_each (replicate m fill_word) rest)
fill_word_step vs v n m ns rest is here = rw (is, add-one) (fill_step vs v fill_word (replicate m fill_word) ns rest here)
