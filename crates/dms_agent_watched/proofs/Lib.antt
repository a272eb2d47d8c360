mod Pictures
