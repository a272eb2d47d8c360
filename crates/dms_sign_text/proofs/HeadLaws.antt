-- What the first seven lines of a description spell is what is read of them.
use Rattle.std.proofs.Common.{◌≡◌, ℕ, ◌<◌, ◌==◌, List, [], ◌∷◌, length, Some, None, ap, subst, ◌∙◌, arith}
use Rattle.std.specs.Prelude.{codes}
use Rattle.std.proofs.lemmas.Option.{same_Some}
use Rattle.dms_text.specs.Numbers.{SpellsDecimal}
use Rattle.dms_text.proofs.WordLaws.{begun, begun_as, goes_on, word_found, word_only, keyword_found, keyword_only}
use Rattle.dms_face.specs.Face.{FaceModel}
use Rattle.dms_codes.specs.declared.codes.Order.{Order}
use Rattle.dms_table.specs.declared.row.Services.{Services}
use Rattle.dms_table.specs.Rows.{TableModel}
use Rattle.dms_sign.specs.State.{ConfigModel}
use Rattle.dms_sign_text.specs.declared.head.Size.{Size}
use Rattle.dms_sign_text.specs.declared.head.RowCounts.{RowCounts}
use Rattle.dms_text_forms.specs.Fields.{SpellsOctet}
use Rattle.dms_sign_text.specs.Description.{SpellsSize, SpellsCommunities, SpellsRowCounts, SpellsOrderLine, SpellsServices, SpellsFirst}
use Rattle.dms_sign_text.specs.DescriptionReading.{size_of, CommunityWords, communities_of, row_counts_of, order_named, order_of, services_of, first_of}
use Rattle.dms_text_forms.proofs.WordReading.{last_found}
use Rattle.dms_sign_text.proofs.WordReading.{two_found, two_only, flag_found, flag_only, flag_number, flag_is, order_found, order_only, four_found, four_only}

-- ---- `size`

pub size_found : (face : FaceModel) (words : List (List ℕ)) → size_of words ≡ Some (record { width = face.width; height = face.height }) → SpellsSize face words
unfolding size_of
size_found face words e =
    let make : ℕ → ℕ → Size = λ width height. record { width = width; height = height } in
    let found = two_found (codes "size") 65535 make words _ e in
    record {
      width_word = found.one_word;
      height_word = found.other_word;
      words_are = found.words_are;
      width = subst (λ n. SpellsDecimal 0 65535 n found.one_word) (ap (λ (size : Size). size.width) found.is) found.one_spelled;
      height = subst (λ n. SpellsDecimal 0 65535 n found.other_word) (ap (λ (size : Size). size.height) found.is) found.other_spelled;
    }

pub size_only : (face : FaceModel) (words : List (List ℕ)) → SpellsSize face words → size_of words ≡ Some (record { width = face.width; height = face.height })
unfolding size_of
size_only face words spelled =
    let make : ℕ → ℕ → Size = λ width height. record { width = width; height = height } in
    ap size_of spelled.words_are
    ∙ two_only (codes "size") 65535 make face.width face.height spelled.width_word spelled.height_word (omega arith) spelled.width spelled.height

-- ---- `communities`

pub communities_found : (config : ConfigModel) (words : List (List ℕ)) → communities_of words ≡ Some (record { reader = config.reader; writer = config.writer }) → SpellsCommunities config words
unfolding communities_of
communities_found config words e =
    let read = begun_as _ _ _ (keyword_found (codes "communities") words) e in
    let reader = begun_as _ _ _ (word_found read.0) read.2 in
    let writer = begun_as _ _ _ (word_found reader.0.1) reader.2 in
    let found : CommunityWords = record { reader = config.reader; writer = config.writer } in
    let end = last_found _ _ found writer.2 in
    read.1
    ∙ ap (λ rest. codes "communities" ∷ rest) (reader.1.0
    ∙ ap (λ rest. reader.0.0 ∷ rest) (writer.1.0 ∙ ap (λ rest. writer.0.0 ∷ rest) end.0))
    ∙ ap (λ (said : CommunityWords). codes "communities" ∷ said.reader ∷ said.writer ∷ []) end.1

pub communities_only : (config : ConfigModel) (words : List (List ℕ)) → 0 < length config.reader → 0 < length config.writer → SpellsCommunities config words
    → communities_of words ≡ Some (record { reader = config.reader; writer = config.writer })
unfolding communities_of
communities_only config words reader writer spelled = grind (arith, goes_on, keyword_only, word_only)

-- ---- `rows`

pub rows_found : (table : TableModel) (words : List (List ℕ)) → row_counts_of words ≡ Some (record { changeable = length table.changeable; volatile = length table.volatile })
    → SpellsRowCounts table words
unfolding row_counts_of
rows_found table words e =
    let make : ℕ → ℕ → RowCounts = λ changeable volatile. record { changeable = changeable; volatile = volatile } in
    let found = two_found (codes "rows") 255 make words _ e in
    record {
      changeable_word = found.one_word;
      volatile_word = found.other_word;
      words_are = found.words_are;
      changeable = subst (λ n. SpellsOctet n found.one_word) (ap (λ (counts : RowCounts). counts.changeable) found.is) found.one_spelled;
      volatile = subst (λ n. SpellsOctet n found.other_word) (ap (λ (counts : RowCounts). counts.volatile) found.is) found.other_spelled;
    }

pub rows_only : (table : TableModel) (words : List (List ℕ)) → SpellsRowCounts table words
    → row_counts_of words ≡ Some (record { changeable = length table.changeable; volatile = length table.volatile })
unfolding row_counts_of
rows_only table words spelled =
    let make : ℕ → ℕ → RowCounts = λ changeable volatile. record { changeable = changeable; volatile = volatile } in
    ap row_counts_of spelled.words_are
    ∙ two_only (codes "rows") 255 make (length table.changeable) (length table.volatile) spelled.changeable_word spelled.volatile_word (omega arith) spelled.changeable spelled.volatile

-- ---- `order`

pub order_line_found : (table : TableModel) (words : List (List ℕ)) → order_of words ≡ Some table.order → SpellsOrderLine table words
unfolding order_of
order_line_found table words e =
    let read = begun_as _ _ _ (keyword_found (codes "order") words) e in
    let found = begun _ _ _ read.2 in
    let word = begun_as _ _ _ (word_found read.0) found.1 in
    let order = begun _ _ _ word.2 in
    let same : (order.0, word.0.1) ≡ found.0 = same_Some _ _ order.2 in
    let end = last_found _ _ table.order found.2 in
    record {
      order_word = word.0.0;
      words_are = read.1
          ∙ ap (λ rest. codes "order" ∷ rest) (word.1.0
          ∙ ap (λ rest. word.0.0 ∷ rest) (ap (λ (pair : Order × List (List ℕ)). pair.1) same ∙ end.0));
      order = order_found table.order word.0.0 (order.1 ∙ ap (λ (pair : Order × List (List ℕ)). Some pair.0) same ∙ ap Some end.1);
    }

named_some : (order : Order) (word : List ℕ) → order_named word ≡ Some order → 0 < length word
named_some order [] e = absurd (let none : None ≡ Some order = e in cc)
named_some order (octet ∷ octets) e = omega arith

pub order_line_only : (table : TableModel) (words : List (List ℕ)) → SpellsOrderLine table words → order_of words ≡ Some table.order
unfolding order_of
order_line_only table words spelled = grind (arith, order_only, goes_on, keyword_only, word_only, named_some)

-- ---- `has`

pub services_found : (services : Services) (words : List (List ℕ)) → services_of words ≡ Some services → SpellsServices services words
unfolding services_of
services_found services words e =
    let make : ℕ → ℕ → Services = λ beacon pixel. record { beacon = beacon == 1; pixel = pixel == 1 } in
    let found = two_found (codes "has") 1 make words _ e in
    record {
      beacon_word = found.one_word;
      pixel_word = found.other_word;
      words_are = found.words_are;
      beacon = flag_found services.beacon found.one found.one_word found.one_spelled (ap (λ (has : Services). has.beacon) found.is);
      pixel = flag_found services.pixel found.other found.other_word found.other_spelled (ap (λ (has : Services). has.pixel) found.is);
    }

pub services_only : (services : Services) (words : List (List ℕ)) → SpellsServices services words → services_of words ≡ Some services
unfolding services_of
services_only services words spelled =
    let make : ℕ → ℕ → Services = λ beacon pixel. record { beacon = beacon == 1; pixel = pixel == 1 } in
    ap services_of spelled.words_are
    ∙ two_only (codes "has") 1 make (flag_number services.beacon) (flag_number services.pixel) spelled.beacon_word spelled.pixel_word (omega arith)
    (flag_only services.beacon spelled.beacon_word spelled.beacon) (flag_only services.pixel spelled.pixel_word spelled.pixel)
    ∙ ap (λ beacon. Some (record { beacon = beacon; pixel = flag_number services.pixel == 1 })) (flag_is services.beacon)
    ∙ ap (λ pixel. Some (record { beacon = services.beacon; pixel = pixel })) (flag_is services.pixel)

-- ---- `first`

pub first_found : (first : ℕ) (words : List (List ℕ)) → first_of words ≡ Some first → SpellsFirst first words
unfolding first_of
first_found first words e =
    let read = begun_as _ _ _ (keyword_found (codes "first") words) e in
    let number = begun_as _ _ _ (four_found read.0) read.2 in
    let end = last_found _ _ first number.2 in
    subst (λ n. SpellsFirst n words) end.1 (record {
      first_word = number.1.word;
      words_are = read.1
          ∙ ap (λ rest. codes "first" ∷ rest) (number.1.words_are ∙ ap (λ rest. number.1.word ∷ rest) end.0);
      number = number.1.spelled;
    })

pub first_only : (first : ℕ) (words : List (List ℕ)) → SpellsFirst first words → first_of words ≡ Some first
unfolding first_of
first_only first words spelled =
    ap first_of spelled.words_are
    ∙ goes_on _ _ _ (keyword_only (codes "first") (spelled.first_word ∷ []) (omega arith))
    ∙ goes_on _ _ _ (four_only first spelled.first_word [] spelled.number)
