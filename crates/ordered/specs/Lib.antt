-- What the contracts cite: the order of lists, the order of number lists, and what each function promises.
pub mod Order
pub mod Columnwise
pub mod Lists
pub mod Promises
