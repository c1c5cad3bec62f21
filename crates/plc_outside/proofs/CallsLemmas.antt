-- Calls one after the other.
use Rattle.std.proofs.Common.{◌≡◌, ℕ, ◌+◌, min, max, List, [], ◌∷◌, ◌++◌, length, refl, ap, sym, ◌∙◌, arith, append_assoc, Option, Some, None, Ok, Err}
use Rattle.std.specs.Option.{option_map}
use Rattle.std.specs.FinMap as map
use Rattle.std.proofs.lemmas.Grind.{common_steps}
use Rattle.plc_outside.specs.Outside.{FilesSeen, ConsoleSeen, Map, counted, also, top, MeansFetch, MeansPut, MeansSay}
use Rattle.plc_outside.specs.Calls.{Call, Fetches, Puts, Says, asked_in, puts_in, handed_in, say_handed_in, said_in, changed, World, world, Counts, Finished, Fails}
use Rattle.plc_outside.specs.declared.fault.FileFault.TheVariants.{Failed, OutOfMemory}

pub also-also : {A : Type 0} (xs ys : List A) (o : Option (List A)) → also ys (also xs o) ≡ also (xs ++ ys) o
also-also xs ys None = refl
also-also xs ys (Some zs) = ap Some (append_assoc zs xs ys)

pub also-nothing : {A : Type 0} (o : Option (List A)) → also [] o ≡ o
also-nothing None = refl
also-nothing (Some zs) = grind (arith, common_steps)

added : (m n k : ℕ) → max (max k (min (k + m) top)) (min (max k (min (k + m) top) + n) top) ≡ max k (min (k + (m + n)) top)
added m n k = omega arith

pub counted-counted : (m n : ℕ) (o : Option ℕ) → counted n (counted m o) ≡ counted (m + n) o
counted-counted m n None = refl
counted-counted m n (Some k) = ap Some (added m n k)

nothing_added : (k : ℕ) → max k (min (k + 0) top) ≡ k
nothing_added k = omega arith

pub counted-nothing : (o : Option ℕ) → counted 0 o ≡ o
counted-nothing None = refl
counted-nothing (Some k) = ap Some (nothing_added k)

pub asked_in-append : (xs ys : List Call) → asked_in (xs ++ ys) ≡ asked_in xs ++ asked_in ys
asked_in-append [] ys = refl
asked_in-append (Fetches n ∷ xs) ys = ap (λ zs. n ∷ zs) (asked_in-append xs ys)
asked_in-append (Puts n b ∷ xs) ys = asked_in-append xs ys
asked_in-append (Says b ∷ xs) ys = asked_in-append xs ys

pub puts_in-append : (xs ys : List Call) → puts_in (xs ++ ys) ≡ puts_in xs + puts_in ys
puts_in-append [] ys = omega arith
puts_in-append (Fetches n ∷ xs) ys = puts_in-append xs ys
puts_in-append (Puts n b ∷ xs) ys = omega (arith, puts_in-append xs ys)
puts_in-append (Says b ∷ xs) ys = puts_in-append xs ys

pub handed_in-append : (xs ys : List Call) → handed_in (xs ++ ys) ≡ handed_in xs + handed_in ys
handed_in-append [] ys = omega arith
handed_in-append (Fetches n ∷ xs) ys = handed_in-append xs ys
handed_in-append (Puts n b ∷ xs) ys = omega (arith, handed_in-append xs ys)
handed_in-append (Says b ∷ xs) ys = handed_in-append xs ys

pub say_handed_in-append : (xs ys : List Call) → say_handed_in (xs ++ ys) ≡ say_handed_in xs + say_handed_in ys
say_handed_in-append [] ys = omega arith
say_handed_in-append (Fetches n ∷ xs) ys = say_handed_in-append xs ys
say_handed_in-append (Puts n b ∷ xs) ys = say_handed_in-append xs ys
say_handed_in-append (Says b ∷ xs) ys = omega (arith, say_handed_in-append xs ys)

pub said_in-append : (xs ys : List Call) → said_in (xs ++ ys) ≡ said_in xs ++ said_in ys
said_in-append [] ys = refl
said_in-append (Fetches n ∷ xs) ys = said_in-append xs ys
said_in-append (Puts n b ∷ xs) ys = said_in-append xs ys
said_in-append (Says b ∷ xs) ys = ap (λ zs. b ++ zs) (said_in-append xs ys) ∙ sym (append_assoc b (said_in xs) (said_in ys))

pub changed-append : (xs ys : List Call) (files : Map) → changed (xs ++ ys) files ≡ changed ys (changed xs files)
changed-append [] ys files = refl
changed-append (Fetches n ∷ xs) ys files = changed-append xs ys files
changed-append (Puts n b ∷ xs) ys files = changed-append xs ys (map.insert files n b)
changed-append (Says b ∷ xs) ys files = changed-append xs ys files

changed_all : (xs ys : List Call) (o : Option Map) → option_map (changed ys) (option_map (changed xs) o) ≡ option_map (changed (xs ++ ys)) o
changed_all xs ys None = refl
changed_all xs ys (Some files) = ap Some (sym (changed-append xs ys files))

-- counts go on
pub Counts-append : (xs ys : List Call) (a b c : World) → Counts xs a b → Counts ys b c → Counts (xs ++ ys) a c
Counts-append xs ys a b c p q = record {
  fetch_later = omega arith;
  put_later = omega arith;
  say_later = omega arith;
  complain_later = omega arith;
  asked = q.asked ∙ ap (also (asked_in ys)) p.asked ∙ also-also (asked_in xs) (asked_in ys) a.files.asked ∙ ap (λ zs. also zs a.files.asked) (sym (asked_in-append xs ys));
  puts = q.puts ∙ ap (counted (puts_in ys)) p.puts ∙ counted-counted (puts_in xs) (puts_in ys) a.files.puts ∙ ap (λ n. counted n a.files.puts) (sym (puts_in-append xs ys));
  handed = q.handed ∙ ap (counted (handed_in ys)) p.handed ∙ counted-counted (handed_in xs) (handed_in ys) a.files.handed ∙ ap (λ n. counted n a.files.handed) (sym (handed_in-append xs ys));
  say_handed = q.say_handed ∙ ap (counted (say_handed_in ys)) p.say_handed ∙ counted-counted (say_handed_in xs) (say_handed_in ys) a.console.handed ∙ ap (λ n. counted n a.console.handed) (sym (say_handed_in-append xs ys));
}

-- calls that went well go on
pub Finished-append : (xs ys : List Call) (a b c : World) → Finished xs a b → Finished ys b c → Finished (xs ++ ys) a c
Finished-append xs ys a b c p q = record {
  counts = Counts-append xs ys a b c p.counts q.counts;
  files = q.files ∙ ap (option_map (changed ys)) p.files ∙ changed_all xs ys a.files.files;
  said = q.said ∙ ap (also (said_in ys)) p.said ∙ also-also (said_in xs) (said_in ys) a.console.said ∙ ap (λ zs. also zs a.console.said) (sym (said_in-append xs ys));
  complained = q.complained ∙ p.complained;
}

same_files : (o : Option Map) → option_map (changed []) o ≡ o
same_files None = refl
same_files (Some files) = refl

-- no call
pub Finished-nothing : (a : World) → Finished [] a a
Finished-nothing a = record {
  counts = record {
    fetch_later = omega arith;
    put_later = omega arith;
    say_later = omega arith;
    complain_later = omega arith;
    asked = sym (also-nothing a.files.asked);
    puts = sym (counted-nothing a.files.puts);
    handed = sym (counted-nothing a.files.handed);
    say_handed = sym (counted-nothing a.console.handed);
  };
  files = sym (same_files a.files.files);
  said = sym (also-nothing a.console.said);
  complained = refl;
}

-- each call of the traits, as one step

pub fetch-no_memory : (name : List ℕ) (most : ℕ) (held holds : List ℕ) (f g : FilesSeen) (c : ConsoleSeen)
    → MeansFetch name most (Err OutOfMemory) held holds f g → Finished [] (world f c) (world g c)
fetch-no_memory name most held holds f g c h = record {
  counts = record {
    fetch_later = h.later;
    put_later = omega arith;
    say_later = omega arith;
    complain_later = omega arith;
    asked = h.asked ∙ sym (also-nothing f.asked);
    puts = h.puts ∙ sym (counted-nothing f.puts);
    handed = h.handed ∙ sym (counted-nothing f.handed);
    say_handed = sym (counted-nothing c.handed);
  };
  files = h.files ∙ sym (same_files f.files);
  said = sym (also-nothing c.said);
  complained = refl;
}

pub fetch-fails : (name : List ℕ) (most : ℕ) (held holds : List ℕ) (f g : FilesSeen) (c : ConsoleSeen)
    → MeansFetch name most (Err Failed) held holds f g → Fails (Fetches name) (world f c) (world g c)
fetch-fails name most held holds f g c h = record {
  counts = record {
    fetch_later = h.later;
    put_later = omega arith;
    say_later = omega arith;
    complain_later = omega arith;
    asked = h.asked;
    puts = h.puts ∙ sym (counted-nothing f.puts);
    handed = h.handed ∙ sym (counted-nothing f.handed);
    say_handed = sym (counted-nothing c.handed);
  };
  rose = h.failed refl;
  files = h.files;
  said = refl;
  complained = refl;
}

puts_once : (n m : List ℕ) → length n + length m + 1 ≡ handed_in (Puts n m ∷ [])
puts_once n m = omega arith

pub put-finishes : {T : Type 0} (name bytes : List ℕ) (x : T) (f g : FilesSeen) (c : ConsoleSeen)
    → MeansPut name bytes (Ok x) f g → Finished (Puts name bytes ∷ []) (world f c) (world g c)
put-finishes name bytes x f g c h = record {
  counts = record {
    fetch_later = omega arith;
    put_later = h.later;
    say_later = omega arith;
    complain_later = omega arith;
    asked = h.asked ∙ sym (also-nothing f.asked);
    puts = h.puts;
    handed = h.handed ∙ ap (λ n. counted n f.handed) (puts_once name bytes);
    say_handed = sym (counted-nothing c.handed);
  };
  files = h.whole;
  said = sym (also-nothing c.said);
  complained = refl;
}

pub put-fails : {T : Type 0} (name bytes : List ℕ) (e : _) (f g : FilesSeen) (c : ConsoleSeen)
    → MeansPut {T = T} name bytes (Err e) f g → Fails (Puts name bytes) (world f c) (world g c)
put-fails name bytes e f g c h = record {
  counts = record {
    fetch_later = omega arith;
    put_later = h.later;
    say_later = omega arith;
    complain_later = omega arith;
    asked = h.asked ∙ sym (also-nothing f.asked);
    puts = h.puts;
    handed = h.handed ∙ ap (λ n. counted n f.handed) (puts_once name bytes);
    say_handed = sym (counted-nothing c.handed);
  };
  rose = h.failed;
  files = h.part;
  said = refl;
  complained = refl;
}

one_more : (n : ℕ) → n + 1 ≡ n + 1 + 0
one_more n = omega arith

pub say-fails : {T : Type 0} (bytes : List ℕ) (e : _) (c d : ConsoleSeen) (f : FilesSeen)
    → MeansSay {T = T} bytes (Err e) c d → Fails (Says bytes) (world f c) (world f d)
say-fails bytes e c d f h = record {
  counts = record {
    fetch_later = omega arith;
    put_later = omega arith;
    say_later = h.later;
    complain_later = omega arith;
    asked = sym (also-nothing f.asked);
    puts = sym (counted-nothing f.puts);
    handed = sym (counted-nothing f.handed);
    say_handed = h.handed ∙ ap (λ n. counted n c.handed) (one_more (length bytes));
  };
  rose = h.failed;
  files = refl;
  said = h.part;
  complained = h.complained;
}
