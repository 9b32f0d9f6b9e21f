-- Lists that have changed, by their keys: how one is found, changed and written.
use Rattle.std.proofs.Common.{◌≡◌, ℕ, ◌+◌, ◌<◌, ◌≤◌, Bool, true, false, not, cond, List, [], ◌∷◌, ◌++◌, Option, length, get_or, set, refl, sym, ap, ◌∙◌, arith, zero, suc, length-append}
use Rattle.std.specs.List.{position_or_len}
use Rattle.std.proofs.lemmas.List.Sums.{position_or_len_is, prefix_len-le-length}
use Rattle.rbc_records.specs.declared.record.Key.{Key}
use Rattle.rbc_records.specs.declared.record.Rec.{Rec}
use Rattle.rbc_records.specs.contracts.record.KeyPartialEq.TheImpl.{eq-value}
use Rattle.rbc_records.specs.Notes.{same_key}
use Rattle.rbc_records.specs.Writes.{written, write_over}
use Rattle.rbc_records.proofs.Keys.{eq_is, same_key_sym, same_key_is}
use Rattle.rbc_records.proofs.Replacing.{made_once, either_first}
use Rattle.rbc_rule.specs.Records.{engines_record}
use Rattle.rbc_rule.specs.Lists.{engines_in}
use Rattle.rbc_rule.proofs.Engines.{engines_in_record}
use Rattle.rbc_rule.proofs.AllGathered.{written-append}
use Rattle.rbc_window.specs.Messages.{Records}
use Rattle.rbc_window.specs.Moving.{list_or}

-- a list of engines with its key, and a write
abbrev pub Keyed : Type 0
Keyed = Key × List ℕ

abbrev pub Write : Type 0
Write = Key × Option Rec

-- a list stands under a key
abbrev pub stands_under : Key → Keyed → Bool
stands_under key list = same_key list.0 key

-- ---- tests

-- no test both passes and fails
not_both : (b : Bool) → b ≡ true → b ≡ false → ⊥
not_both b is is_not = let bad : true ≡ false = sym is ∙ is_not in cc

-- no key is the same as each of two keys that differ
apart : (k a key : Key) → same_key a key ≡ false → same_key k a ≡ true → same_key k key ≡ true → ⊥
apart k a key differ to_a to_key =
    let is : k ≡ a = same_key_is k a to_a in
    not_both (same_key a key) (ap (λ (q : Key). same_key q key) (sym is) ∙ to_key) differ

-- ---- what is written under a key

-- to write what stands there changes nothing
pub unchanged : (records : Records) (key : Key) (rec : Option Rec) → rec ≡ records key → (k : Key)
    → write_over (key, rec) records k ≡ records k
unchanged records key rec is k = by (same_key k key) refl
  where
    by : (b : Bool) → same_key k key ≡ b → cond b rec (records k) ≡ records k
    by true here = is ∙ ap records (sym (same_key_is k key here))
    by false elsewhere = refl

-- a list behind the others counts as if it were written before them
pub behind : (lists : List Keyed) (list : Keyed) (records : Records) (k : Key)
    → list_or (lists ++ list ∷ []) records k ≡ list_or lists (write_over (list.0, engines_record list.1) records) k
behind [] list records k = refl
behind (first ∷ lists) list records k =
    ap (cond (same_key k first.0) (engines_record first.1)) (behind lists list records k)

-- the last list is written
pub last_written : (lists : List Keyed) (list : Keyed) (writes : List Write) (records : Records) (k : Key)
    → list_or lists (written (writes ++ (list.0, engines_record list.1) ∷ []) records) k
    ≡ list_or (lists ++ list ∷ []) (written writes records) k
last_written lists list writes records k =
    ap (λ (now : Records). list_or lists now k)
    (λ i j. written-append writes ((list.0, engines_record list.1) ∷ []) records j i)
    ∙ sym (behind lists list (written writes records) k)

-- the same, where the lists and the writes are known by equations
pub written_there : (lists left : List Keyed) (list : Keyed) (rec : Option Rec) (writes more : List Write)
    → lists ≡ left ++ list ∷ [] → rec ≡ engines_record list.1 → more ≡ writes ++ (list.0, rec) ∷ []
    → (records : Records) (k : Key)
    → list_or left (written more records) k ≡ list_or lists (written writes records) k
written_there lists left list rec writes more whole is_rec behind_them records k =
    ap (λ (w : List Write). list_or left (written w records) k) behind_them
    ∙ ap (λ (r : Option Rec). list_or left (written (writes ++ (list.0, r) ∷ []) records) k) is_rec
    ∙ last_written left list writes records k
    ∙ ap (λ (l : List Keyed). list_or l (written writes records) k) (sym whole)

-- a list is copied
pub copied : (lists : List Keyed) (key : Key) (engines : List ℕ) (records : Records)
    → engines_record engines ≡ records key → (k : Key)
    → list_or (lists ++ (key, engines) ∷ []) records k ≡ list_or lists records k
copied lists key engines records is k =
    behind lists (key, engines) records k
    ∙ ap (λ (now : Records). list_or lists now k)
    (λ i j. unchanged records key (engines_record engines) is j i)

-- ---- where the list under a key stands

-- the place where it is found, or that behind the others
pub place_is : (lists : List Keyed) (key : Key) (at : ℕ) → at ≤ length lists
    → ((k : ℕ) → k < at → same_key (get_or lists k (key, [])).0 key ≡ false)
    → (at < length lists → same_key (get_or lists at (key, [])).0 key ≡ true)
    → at ≡ position_or_len (stands_under key) lists
place_is lists key at within before here =
    sym (position_or_len_is (stands_under key) lists at (key, []) within before here)

-- what is read within a list does not depend on what stands for the places behind it
pub read_within : (lists : List Keyed) (at : ℕ) (a b : Keyed) → at < length lists
    → get_or lists at a ≡ get_or lists at b
read_within [] at a b within = absurd (omega arith)
read_within (list ∷ lists) zero a b within = refl
read_within (list ∷ lists) (suc at) a b within = read_within lists at a b (omega arith)

-- where the key had no list, its place is within the lists once one came behind them
pub within_more : (lists new : List Keyed) (key : Key) (list : Keyed) (at : ℕ)
    → at ≡ position_or_len (stands_under key) lists → new ≡ lists ++ list ∷ [] → at < length new
within_more lists new key list at is more =
    let most : position_or_len (stands_under key) lists ≤ length lists =
    prefix_len-le-length (λ list. not (stands_under key list)) lists
    in
    let count : length new ≡ length lists + 1 = ap length more ∙ length-append lists (list ∷ []) in
    omega arith

-- a list that is looked at stands under the key or not, as the test says
pub looked_at : (all now : List Keyed) (key : Key) (at : ℕ) (list : Keyed) (b : Bool)
    → all ≡ now → at < length all → list ≡ get_or all at list → eq-value.it list.0 key ≡ b
    → same_key (get_or now at (key, [])).0 key ≡ b
looked_at all now key at list b same within read test =
    ap (λ (lists : List Keyed). same_key (get_or lists at (key, [])).0 key) (sym same)
    ∙ ap (λ (l : Keyed). same_key l.0 key) (read_within all at (key, []) list within ∙ sym read)
    ∙ sym (eq_is list.0 key)
    ∙ test

-- ---- a list in its place is changed

-- what stands under its key
pub current : (lists : List Keyed) (records : Records) (key : Key) (at : ℕ) (list : Keyed)
    → position_or_len (stands_under key) lists ≡ at → at < length lists → list ≡ get_or lists at list
    → list_or lists records key ≡ engines_record list.1
current [] records key at list is within read = absurd (omega arith)
current (first ∷ lists) records key at list is within read =
    by (λ at is within read. current lists records key at list is within read) (same_key first.0 key) refl
    at is within read
  where
    by : ((at : ℕ) → position_or_len (stands_under key) lists ≡ at → at < length lists → list ≡ get_or lists at list
        → list_or lists records key ≡ engines_record list.1)
        → (b : Bool) → same_key first.0 key ≡ b → (at : ℕ)
        → cond (not b) (1 + position_or_len (stands_under key) lists) 0 ≡ at
        → at < length (first ∷ lists) → list ≡ get_or (first ∷ lists) at list
        → list_or (first ∷ lists) records key ≡ engines_record list.1
    by rest true here zero is within read =
        ap (λ (b : Bool). cond b (engines_record first.1) (list_or lists records key))
        (same_key_sym key first.0 ∙ here)
        ∙ ap (λ (l : Keyed). engines_record l.1) (sym read)
    by rest true here (suc at) is within read = absurd (omega arith)
    by rest false elsewhere zero is within read = absurd (omega arith)
    by rest false elsewhere (suc at) is within read =
        ap (λ (b : Bool). cond b (engines_record first.1) (list_or lists records key))
        (same_key_sym key first.0 ∙ elsewhere)
        ∙ rest at (omega arith) (omega arith) read

-- what stands under each key once it is changed
pub put : (lists : List Keyed) (records : Records) (key : Key) (at : ℕ) (list : Keyed) (engines : List ℕ)
    → position_or_len (stands_under key) lists ≡ at → at < length lists → list ≡ get_or lists at list → (k : Key)
    → list_or (set lists at (list.0, engines)) records k
    ≡ write_over (key, engines_record engines) (list_or lists records) k
put [] records key at list engines is within read k = absurd (omega arith)
put (first ∷ lists) records key at list engines is within read k =
    by (λ at is within read. put lists records key at list engines is within read k) (same_key first.0 key) refl
    at is within read
  where
    by : ((at : ℕ) → position_or_len (stands_under key) lists ≡ at → at < length lists → list ≡ get_or lists at list
        → list_or (set lists at (list.0, engines)) records k
        ≡ write_over (key, engines_record engines) (list_or lists records) k)
        → (b : Bool) → same_key first.0 key ≡ b → (at : ℕ)
        → cond (not b) (1 + position_or_len (stands_under key) lists) 0 ≡ at
        → at < length (first ∷ lists) → list ≡ get_or (first ∷ lists) at list
        → list_or (set (first ∷ lists) at (list.0, engines)) records k
        ≡ write_over (key, engines_record engines) (list_or (first ∷ lists) records) k
    by rest true here zero is within read =
        let own : list.0 ≡ key = ap (λ (l : Keyed). l.0) read ∙ same_key_is first.0 key here in
        let was : first.0 ≡ key = same_key_is first.0 key here in
        ap (λ (q : Key). cond (same_key k q) (engines_record engines) (list_or lists records k)) own
        ∙ made_once (same_key k key) (engines_record engines) (engines_record first.1) (list_or lists records k)
        ∙ ap (λ (q : Key). cond (same_key k key) (engines_record engines)
        (cond (same_key k q) (engines_record first.1) (list_or lists records k))) (sym was)
    by rest true here (suc at) is within read = absurd (omega arith)
    by rest false elsewhere zero is within read = absurd (omega arith)
    by rest false elsewhere (suc at) is within read =
        ap (cond (same_key k first.0) (engines_record first.1)) (rest at (omega arith) (omega arith) read)
        ∙ either_first (same_key k first.0) (same_key k key) (engines_record first.1) (engines_record engines)
        (list_or lists records k) (apart k first.0 key elsewhere)

-- a list that was found, and copied before that if need be, is changed
pub changed : (old lists : List Keyed) (records : Records) (key : Key) (at : ℕ) (list : Keyed)
    (f : List ℕ → List ℕ)
    → ((k : Key) → list_or lists records k ≡ list_or old records k)
    → position_or_len (stands_under key) lists ≡ at → at < length lists → list ≡ get_or lists at list → (k : Key)
    → list_or (set lists at (list.0, f list.1)) records k
    ≡ write_over (key, engines_record (f (engines_in (list_or old records key)))) (list_or old records) k
changed old lists records key at list f same is within read k =
    let now : engines_in (list_or lists records key) ≡ list.1 =
    ap engines_in (current lists records key at list is within read) ∙ engines_in_record list.1
    in
    put lists records key at list (f list.1) is within read k
    ∙ ap (λ (engines : List ℕ). write_over (key, engines_record (f engines)) (list_or lists records) k) (sym now)
    ∙ ap (λ (before : Records). write_over (key, engines_record (f (engines_in (before key)))) before k)
    (λ i j. same j i)

-- the same, where the lists and the engines are known by equations
pub changed_there : (old lists all : List Keyed) (records : Records) (key : Key) (at : ℕ) (list : Keyed)
    (f : List ℕ → List ℕ) (engines : List ℕ) → all ≡ lists
    → ((k : Key) → list_or lists records k ≡ list_or old records k)
    → position_or_len (stands_under key) lists ≡ at → at < length lists → list ≡ get_or all at list
    → engines ≡ f list.1 → (k : Key)
    → list_or (set all at (list.0, engines)) records k
    ≡ write_over (key, engines_record (f (engines_in (list_or old records key)))) (list_or old records) k
changed_there old lists all records key at list f engines is_all same is within read is_f k =
    ap (λ (l : List Keyed). list_or (set l at (list.0, engines)) records k) is_all
    ∙ ap (λ (e : List ℕ). list_or (set lists at (list.0, e)) records k) is_f
    ∙ changed old lists records key at list f same is within
    (read ∙ ap (λ (l : List Keyed). get_or l at list) is_all) k
