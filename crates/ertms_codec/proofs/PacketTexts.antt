-- Packets of a text that are read one after another.
use Rattle.std.proofs.Common.{◌≡◌, ◌≤◌, ℕ, suc, ◌-◌, List, [], ◌∷◌, ◌++◌, length, length-append, arith}
use Rattle.std.proofs.lemmas.List.{append-nil}
use Rattle.std.specs.List.{flat_map, AllByRecursion as All}
use Rattle.std.proofs.lemmas.List.Concat.{flat_map-append}
use Rattle.ertms_codec.specs.declared.packets.Part.{Part}
use Rattle.ertms_codec.specs.declared.wrong_word.WrongWord.{WrongWord}
use Rattle.ertms_codec.specs.declared.wrong_word.Expected.TheVariants as a
use Rattle.ertms_codec.specs.PacketsToTrain.{ArePacketsThatFit, PacketFits, IdFits}
use Rattle.ertms_codec.specs.Grammar.{Grammar, Ends, FirstWrong, one, packet_then, packets_behind, first_packets}
use Rattle.ertms_codec.specs.Words.{Unread, Passes, packet_words}
use Rattle.ertms_codec.proofs.WordsLeft.{Passes-append}
use Rattle.ertms_codec.proofs.Leads.{past, first_parts_lead, in_a_row}

-- packets are read, and nothing else
pub record AreRead (parts : List Part) (before now : Unread) : Type 0 where
  pub fit : ArePacketsThatFit parts
  pub ids : All IdFits parts
  pub passes : Passes (flat_map packet_words parts) before now

holds-append : (P : Part → Type 0) (parts : List Part) (part : Part) → All P parts → P part → All P (parts ++ part ∷ [])
holds-append P [] part each one = (one, tt)
holds-append P (first ∷ parts) part each one = (each.0, holds-append P parts part each.1 one)

-- one more is read
pub one_more : (parts : List Part) (part : Part) (before between now : Unread) → AreRead parts before between → length parts ≤ 99 → PacketFits part → IdFits part → Passes (packet_words part) between now → AreRead (parts ++ part ∷ []) before now
one_more parts part before between now read few fits id passes =
    let long = length-append parts (part ∷ []) in
    record {
      fit = record { some = omega (arith, long); most = omega (arith, long); each = holds-append PacketFits parts part read.fit.each fits };
      ids = holds-append IdFits parts part read.ids id;
      passes = rw (flat_map-append, append-nil) (Passes-append read.passes passes);
    }

-- a wrong word in the next packet
pub wrong_packet : (parts : List Part) (before now : Unread) (wrong : WrongWord) → AreRead parts before now → length parts ≤ 99 → (now.words ≡ [] → ⊥) → ((next : Grammar) → FirstWrong now.next (one a.Packet (λ number. packet_then number next)) now.words wrong) → FirstWrong before.next first_packets before.words wrong
wrong_packet parts before now wrong read few some first =
    let left : ℕ = 99 - length parts in
    past (flat_map packet_words parts) first_packets (packets_behind (suc left)) wrong
    (first_parts_lead parts (suc left) (omega arith) read.fit.some read.fit.each read.ids) read.passes
    (in_a_row left now.next now.words wrong some (first (packets_behind left)))

-- a word behind the last packet that can stand there
pub wrong_end : (parts : List Part) (before now : Unread) (wrong : WrongWord) → AreRead parts before now → length parts ≡ 100 → FirstWrong now.next Ends now.words wrong → FirstWrong before.next first_packets before.words wrong
wrong_end parts before now wrong read full first =
    past (flat_map packet_words parts) first_packets (packets_behind 0) wrong
    (first_parts_lead parts 0 (omega arith) read.fit.some read.fit.each read.ids) read.passes first

-- the end of a text is no wrong word
pub no_wrong_end : (index : ℕ) (words : List (List ℕ)) (wrong : WrongWord) → words ≡ [] → FirstWrong index Ends words wrong → ⊥
no_wrong_end index [] wrong none first = first.is
no_wrong_end index (word ∷ words) wrong none first = cc
