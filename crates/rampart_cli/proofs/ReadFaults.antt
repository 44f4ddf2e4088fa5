-- Which statuses say that no read failed.
use Rattle.std.proofs.Common.{◌≡◌, ◌≢◌, ◌⊎◌, ℕ, inl, inr}

-- none failed at 0, 4 and 7, and no other status comes but 1 and 3
pub none_failed : {X : Type 0} (status faults faults_now : ℕ)
    → (status ≡ 0) ⊎ (status ≡ 1) ⊎ (status ≡ 3) ⊎ (status ≡ 4) ⊎ (status ≡ 7) → (status ≡ 0 → (faults_now ≡ faults) × X)
    → ((status ≡ 4) ⊎ (status ≡ 7) → faults_now ≡ faults) → status ≢ 1 → status ≢ 3 → faults_now ≡ faults
none_failed status faults faults_now (inl zero) steady whole memory source = (steady zero).0
none_failed status faults faults_now (inr (inl one)) steady whole memory source = absurd (memory one)
none_failed status faults faults_now (inr (inr (inl three))) steady whole memory source = absurd (source three)
none_failed status faults faults_now (inr (inr (inr which))) steady whole memory source = whole which

-- the same, where 8 comes too
pub none_failed_either : {X : Type 0} (status faults faults_now : ℕ)
    → (status ≡ 0) ⊎ (status ≡ 1) ⊎ (status ≡ 3) ⊎ (status ≡ 4) ⊎ (status ≡ 7) ⊎ (status ≡ 8) → (status ≡ 0 → (faults_now ≡ faults) × X)
    → ((status ≡ 4) ⊎ (status ≡ 7) ⊎ (status ≡ 8) → faults_now ≡ faults) → status ≢ 1 → status ≢ 3 → faults_now ≡ faults
none_failed_either status faults faults_now (inl zero) steady whole memory source = (steady zero).0
none_failed_either status faults faults_now (inr (inl one)) steady whole memory source = absurd (memory one)
none_failed_either status faults faults_now (inr (inr (inl three))) steady whole memory source = absurd (source three)
none_failed_either status faults faults_now (inr (inr (inr which))) steady whole memory source = whole which
